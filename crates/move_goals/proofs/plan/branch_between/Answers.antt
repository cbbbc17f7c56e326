use Rattle.std.proofs.Common.{◌∙◌, rules, arith}
use Rattle.move_goals.proofs.Pushed.{planned-ready}
use Rattle.move_goals.proofs.plan.branch_between.Goals as goal

pub returns-then-not-is_empty : goal.returns-then-not-is_empty
returns-then-not-is_empty c =
    c.ready_branch.ensures
    ∙ planned-ready c.args.bits c.args.items.now c.args.from c.args.to c.args.k (c.requires.ready (search (rules, arith))).untargeted
