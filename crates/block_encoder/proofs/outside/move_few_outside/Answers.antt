use Rattle.std.proofs.Common.{sym, ap, subst, ◌∙◌, length, Result}
use Rattle.branch_sizes.specs.Plan.{BlockPlan}
use Rattle.move_goals.specs.Items.{one_span}
use Rattle.move_goals.specs.Plan.{kept_goals}
use Rattle.block_encoder.specs.declared.error.PlanError.{PlanError}
use Rattle.block_encoder.specs.Moved.{MovedLists}
use Rattle.block_encoder.specs.ByPlan.{IsPlanAnswer, IsOutsideAnswer}
use Rattle.block_encoder.specs.Planned.{as_moving}
use Rattle.block_encoder.proofs.Chosen.{plan-count}
use Rattle.block_encoder.proofs.Answering.{outside_answer}
use Rattle.block_encoder.proofs.outside.move_few_outside.Goals as goal

pub move_planned-requires : goal.move_planned-requires
move_planned-requires c =
    ap (λ (p : BlockPlan). length p.items) c.in_ok-plan.ensures
    ∙ plan-count c.args.bits (one_span c.args.items.now c.args.new_base) c.args.items.now (kept_goals c.args.items.now)

pub returns : goal.returns
returns c =
    subst (λ (r : Result MovedLists PlanError). IsOutsideAnswer c.args.bits c.args.items.now c.args.new_base (as_moving r)) (sym c.one_block.ensures)
    (outside_answer c.args.bits c.args.items.now c.args.new_base c.requires.few (as_moving c.move_planned.result)
    (subst (λ (p : BlockPlan). IsPlanAnswer c.args.bits c.args.items.now p (as_moving c.move_planned.result)) c.in_ok-plan.ensures c.move_planned.ensures))
