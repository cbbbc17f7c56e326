use Rattle.std.proofs.Common.{sym, subst}
use Rattle.block_encoder.specs.ByPlan.{IsOutsideAnswer}
use Rattle.block_encoder.proofs.outside.move_outside.Goals as goal

pub returns : goal.returns
returns c =
    subst (IsOutsideAnswer c.args.bits c.args.items.now c.args.new_base) (sym c.one_as_moving.ensures) c.move_few_outside.ensures
