-- What holds of all code whose instructions are given slots.
use Rattle.std.specs.Prelude.{◌≡◌, ℕ, List}
use Rattle.moving_run.specs.CommandWords.Ranges.{Range}
use Rattle.sweep.specs.declared.run_parts.status.Status.{Status}
use Rattle.moving_run.specs.SlotsRun.Slotting.{IsSlotsAnswer}

-- some code has one answer
pub record SlotsAnswerFacts : Type 0 where
  pub answer_unique : (range : Range) (base : ℕ) (bytes : List ℕ) (s t : Status) → IsSlotsAnswer range base bytes s → IsSlotsAnswer range base bytes t →
      s ≡ t
