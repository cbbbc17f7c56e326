use Rattle.std.proofs.Common.{◌≡◌, ◌<◌, ℕ, false}
use Rattle.move_goals.specs.Goals.{begins_at}
use Rattle.detour.proofs.trampoline.item_at.Given as goal

abbrev pub invariant-items : goal.invariant-items
invariant-items l = (j : ℕ) → j < l.k → begins_at l.items l.target j ≡ false
