use Rattle.std.proofs.Common.{◌≡◌, map}
use Rattle.std.specs.List.{range_with_len}
use Rattle.move_goals.specs.Plan.{branch_with}
use Rattle.code_assembler.specs.Routine.{routine_goals}
use Rattle.code_assembler.proofs.finishing.plan_at.Given as goal

abbrev pub invariant-items : goal.invariant-items
invariant-items l = l.branches.items ≡ map (branch_with l.bits l.items (routine_goals l.labels l.aims l.items)) (range_with_len 0 l.k)
