use Rattle.std.proofs.Common.{◌≡◌, ◌<◌, ℕ}
use Rattle.detour.specs.Taken.{offset_at}
use Rattle.detour.proofs.entries.is_moved_start.Given as goal

abbrev pub invariant-items : goal.invariant-items
invariant-items l = (j : ℕ) → j < l.k → offset_at l.items j ≡ l.q → ⊥
