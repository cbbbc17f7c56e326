use Rattle.std.proofs.Common.{◌≡◌, map}
use Rattle.std.specs.List.{range_with_len}
use Rattle.move_goals.specs.Plan.{branch_with}
use Rattle.detour.specs.Trampoline.{trampoline_goal_at}
use Rattle.detour.proofs.trampoline.plan_at.Given as goal

abbrev pub invariant-items : goal.invariant-items
invariant-items l = l.branches.items ≡ map (branch_with l.bits l.items (trampoline_goal_at l.rule l.items l.count l.follow)) (range_with_len 0 l.k)
