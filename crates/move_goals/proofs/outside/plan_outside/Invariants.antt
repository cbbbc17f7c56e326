use Rattle.std.proofs.Common.{◌≡◌, map}
use Rattle.std.specs.List.{range_with_len}
use Rattle.move_goals.specs.Plan.{branch_with, kept_goals}
use Rattle.move_goals.proofs.outside.plan_outside.Given as goal

abbrev pub invariant-items : goal.invariant-items
invariant-items l = l.branches.items ≡ map (branch_with l.bits l.items (kept_goals l.items)) (range_with_len 0 l.k)
