-- What the proofs of this crate use of the crates below: what their laws say.
use Rattle.std.specs.Prelude.{ℕ}
use Rattle.x86_values.specs.declared.Bits.{Bits}
use Rattle.move_goals.specs.BranchForms.Facts.{CodeFacts}
use Rattle.move_goals.specs.Facts.{PlanFacts}
use Rattle.block_encoder.specs.Facts.{FragmentFacts, ReachFacts, LastFacts, JumpFacts}
use Rattle.code_region.specs.Facts.{PlaceFacts, RegionFacts}
use Rattle.code_region.specs.LiveEntries.Facts.{FillFacts, EntryFacts}
use Rattle.step_slots.specs.State.{slot_place, slot_len}
use Rattle.step_slots.specs.Keeping.{IsSlotBlock}

-- codes, plans, fragments, reach, last forms, near jumps, regions, places in them, and the slots of a mode in a region with a base
pub record StepLawsBelow : Type 0 where
  pub codes : CodeFacts
  pub plans : PlanFacts
  pub fragments : FragmentFacts
  pub reach : ReachFacts
  pub last : LastFacts
  pub jumps : JumpFacts
  pub regions : RegionFacts
  pub places : PlaceFacts
  pub fills : FillFacts
  pub entries : EntryFacts {S = Bits × ℕ} slot_place (λ s. slot_len s.0 s.1) (λ s. IsSlotBlock s.0 s.1)
