use Rattle.std.proofs.Common.{sym, subst}
use Rattle.block_encoder.specs.ByPlan.{IsPlanAnswer}
use Rattle.block_encoder.proofs.by_plan.move_by_plan.Goals as goal

pub returns : goal.returns
returns c = subst (IsPlanAnswer c.args.bits c.args.items.now c.args.plan.now) (sym c.as_moving.ensures) c.move_planned.ensures
