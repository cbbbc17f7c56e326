use Rattle.std.proofs.Common.{rules, arith}
use Rattle.code_assembler.proofs.finishing.forms_of.Goals as goal

pub overflow_cast-ready : goal.overflow_cast-ready
overflow_cast-ready c = omega (arith, (c.requires (search (rules, arith))).few)

pub choices_without_target-requires-clause-untargeted : goal.choices_without_target-requires-clause-untargeted
choices_without_target-requires-clause-untargeted c = (c.requires (search (rules, arith))).untargeted

pub choices_without_target-requires-clause-len : goal.choices_without_target-requires-clause-len
choices_without_target-requires-clause-len c =
    c.spellings_are_moved.ensures.encoding-length c.args.bits 0 c.args.instr.now c.args.ready.now ((c.requires (search (rules, arith))).encoded 0)
