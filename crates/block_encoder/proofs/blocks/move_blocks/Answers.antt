use Rattle.std.proofs.Common.{sym, subst}
use Rattle.block_encoder.specs.Going.{GoToGoals}
use Rattle.block_encoder.specs.Moved.{IsAnswer}
use Rattle.block_encoder.proofs.blocks.move_blocks.Goals as goal

pub returns-clause-answer : goal.returns-clause-answer
returns-clause-answer c =
    subst (IsAnswer c.args.bits c.args.items.now c.args.spans.now) (sym c.as_moving.ensures) c.move_ordered_blocks.ensures.answer

pub returns-clause-goals : goal.returns-clause-goals
returns-clause-goals c =
    subst (GoToGoals c.args.bits c.args.items.now c.args.spans.now) (sym c.as_moving.ensures) c.move_ordered_blocks.ensures.goals
