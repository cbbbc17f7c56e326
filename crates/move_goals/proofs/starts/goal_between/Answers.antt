use Rattle.std.proofs.Common.{sym}
use Rattle.move_goals.proofs.Began.{stays}
use Rattle.move_goals.proofs.starts.goal_between.Goals as goal

pub returns-then-to-from : goal.returns-then-to-from
returns-then-to-from c =
    stays c.args.items.now c.args.from c.args.to c.args.target c.requires.end c.if-to-from.true (sym c.in_default.ensures)
