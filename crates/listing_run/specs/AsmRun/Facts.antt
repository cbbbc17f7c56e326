-- What holds of all texts of code.
use Rattle.std.specs.Prelude.{◌≡◌, ℕ, List}
use Rattle.x86_values.specs.declared.Bits.{Bits}
use Rattle.sweep.specs.declared.run_parts.status.Status.{Status}
use Rattle.listing_run.specs.AsmRun.Assembling.{IsTextAnswer}

-- a text has one answer
pub record AssemblyAnswerFacts : Type 0 where
  pub answer_unique : (bits : Bits) (base : ℕ) (text : List ℕ) (a b : Status) → IsTextAnswer bits base text a → IsTextAnswer bits base text b → a ≡ b
