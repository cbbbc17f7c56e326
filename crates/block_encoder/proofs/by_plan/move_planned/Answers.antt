use Rattle.move_goals.specs.Items.{item_at}
use Rattle.block_encoder.proofs.Ready.{none_ready}
use Rattle.block_encoder.proofs.by_plan.move_planned.Goals as goal

pub move_with_ready-requires-clause-ready : goal.move_with_ready-requires-clause-ready
move_with_ready-requires-clause-ready c = λ k. none_ready c.args.bits (item_at c.args.items.now k).instr
