use Rattle.move_goals.specs.Items.{item_at}
use Rattle.move_goals.proofs.Pushed.{none_ready}
use Rattle.move_goals.proofs.plan.plan_for.Goals as goal

pub plan_with_ready-requires-clause-ready : goal.plan_with_ready-requires-clause-ready
plan_with_ready-requires-clause-ready c = λ k. none_ready c.args.bits (item_at c.args.items.now k).instr
