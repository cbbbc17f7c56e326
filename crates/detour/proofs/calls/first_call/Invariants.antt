use Rattle.std.proofs.Common.{◌≡◌, ◌<◌, ℕ, false}
use Rattle.move_goals.specs.Items.{item_at}
use Rattle.detour.specs.Calls.{calls}
use Rattle.detour.proofs.calls.first_call.Given as goal

abbrev pub invariant-items : goal.invariant-items
invariant-items l = (j : ℕ) → j < l.k → calls (item_at l.items j) ≡ false
