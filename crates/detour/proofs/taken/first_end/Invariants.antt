use Rattle.std.proofs.Common.{◌≡◌, ◌<◌, ℕ, false, not}
use Rattle.move_goals.specs.Items.{item_at}
use Rattle.detour.specs.Taken.{item_goes_on}
use Rattle.detour.proofs.taken.first_end.Given as goal

abbrev pub invariant-items : goal.invariant-items
invariant-items l = (j : ℕ) → j < l.k → not (item_goes_on (item_at l.items j)) ≡ false
