-- What the proofs of this crate use of the crates below where some instructions have no row.
use Rattle.code_items.specs.AnyStanding.{AllStandIn, OneStands}
use Rattle.detour.specs.LawsBelow.{DetourLawsBelow}

-- what holds of all instructions, of those that stand somewhere, and of blocks
pub record DetourAnyLaws : Type 0 where
  pub below : DetourLawsBelow
  pub one : OneStands
  pub stand : AllStandIn
