use Rattle.std.proofs.Common.{◌≡◌, map}
use Rattle.std.specs.List.{range_with_len}
use Rattle.code_items.specs.AnyPlan.{any_branch_at}
use Rattle.code_items.proofs.any_plan.any_plan.Given as goal

abbrev pub invariant-items : goal.invariant-items
invariant-items l = l.branches.items ≡ map (any_branch_at l.bits l.items) (range_with_len 0 l.k)
