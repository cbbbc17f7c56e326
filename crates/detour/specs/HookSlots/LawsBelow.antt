-- What the proofs of this crate use of the crates below: what their laws say.
use Rattle.std.specs.Prelude.{ℕ}
use Rattle.x86_values.specs.declared.Bits.{Bits}
use Rattle.code_region.specs.Facts.{RegionFacts}
use Rattle.code_region.specs.LiveEntries.Facts.{FillFacts, EntryFacts}
use Rattle.detour.specs.HookSlots.State.{hook_place}
use Rattle.detour.specs.HookSlots.Keeping.{IsHookBlock}

-- regions, blocks that are filled in them, and the hooks of a mode in slots of one size
pub record HookLawsBelow : Type 0 where
  pub regions : RegionFacts
  pub fills : FillFacts
  pub entries : EntryFacts {S = Bits × ℕ} hook_place (λ s hook. s.1) (λ s. IsHookBlock s.0 s.1)
