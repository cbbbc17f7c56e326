use Rattle.std.proofs.Common.{◌≡◌, map}
use Rattle.std.specs.List.{range_with_len}
use Rattle.code_items.specs.AnyPlan.{any_branch_with, goal_in}
use Rattle.code_items.proofs.any_plan.any_plan_with.Given as goal

abbrev pub invariant-items : goal.invariant-items
invariant-items l = l.branches.items ≡ map (any_branch_with l.bits l.items (goal_in l.goals)) (range_with_len 0 l.k)
