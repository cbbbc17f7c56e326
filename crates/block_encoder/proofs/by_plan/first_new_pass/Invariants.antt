use Rattle.std.proofs.Common.{◌≡◌, ◌<◌, ℕ, false, get_or}
use Rattle.move_goals.specs.Items.{passes}
use Rattle.branch_sizes.specs.MoveLayout.Laid.{no_end}
use Rattle.block_encoder.proofs.by_plan.first_new_pass.Given as goal

abbrev pub invariant-loop-end : goal.invariant-loop-end
invariant-loop-end l = (b : ℕ) → b < l.end-index → passes l.bits (get_or l.ends b no_end).end ≡ false
