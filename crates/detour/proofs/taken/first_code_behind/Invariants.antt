use Rattle.std.proofs.Common.{◌≡◌, ◌<◌, ℕ, false}
use Rattle.detour.specs.Taken.{is_code_behind}
use Rattle.detour.proofs.taken.first_code_behind.Given as goal

abbrev pub invariant-items : goal.invariant-items
invariant-items l = (j : ℕ) → j < l.k → is_code_behind l.items j ≡ false
