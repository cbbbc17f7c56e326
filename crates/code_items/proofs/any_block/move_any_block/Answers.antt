use Rattle.std.proofs.Common.{length, subst}
use Rattle.branch_sizes.specs.Plan.{BlockPlan}
use Rattle.code_items.specs.AnyItems.{any_at}
use Rattle.code_items.specs.AnyPlan.{any_choices, goal_in}
use Rattle.code_items.specs.AnyMoved.{IsAnyPlanAnswer}
use Rattle.code_items.proofs.AnyPlanned.{fit-below}
use Rattle.code_items.proofs.any_block.move_any_block.Goals as goal

pub move_by_plan-requires-clause-plan : goal.move_by_plan-requires-clause-plan
move_by_plan-requires-clause-plan c = record {
  goals = goal_in c.args.goals.now;
  new = c.args.new;
  is = c.in-Ok.ensures;
  inside = λ k j lt e.
      fit-below (length c.args.items.now) (length (any_choices c.args.bits (any_at c.args.items.now k))) (goal_in c.args.goals.now k) j (c.requires.goals.each k lt) e;
}

pub returns-in-Ok : goal.returns-in-Ok
returns-in-Ok c =
    subst (λ (p : BlockPlan). IsAnyPlanAnswer c.args.bits c.args.items.now p c.move_by_plan.result) c.in-Ok.ensures c.move_by_plan.ensures
