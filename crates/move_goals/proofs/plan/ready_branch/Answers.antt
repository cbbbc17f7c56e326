use Rattle.std.proofs.Common.{arith}
use Rattle.move_goals.proofs.plan.ready_branch.Goals as goal

pub overflow_cast-ready : goal.overflow_cast-ready
overflow_cast-ready c = omega (arith, c.requires.ready.few)

pub choices_without_target-requires-clause-untargeted : goal.choices_without_target-requires-clause-untargeted
choices_without_target-requires-clause-untargeted c = c.requires.ready.untargeted

pub choices_without_target-requires-clause-len : goal.choices_without_target-requires-clause-len
choices_without_target-requires-clause-len c =
    c.spellings_are_moved.ensures.encoding-length c.args.bits 0 c.args.instr.now c.args.ready.now (c.requires.ready.encoded 0)
