use Rattle.std.proofs.Common.{arith}
use Rattle.text_pieces.proofs.Short.{one-long}
use Rattle.text_pieces.proofs.layout.put_layout.Goals as goal

pub put_part-requires-clause-room : goal.put_part-requires-clause-room
put_part-requires-clause-room c = omega (arith, one-long c.args.instr.now c.requires.operands)

pub put_part-requires-2-clause-room : goal.put_part-requires-2-clause-room
put_part-requires-2-clause-room c = omega (arith, one-long c.args.instr.now c.requires.operands)

pub put_part-requires-3-clause-room : goal.put_part-requires-3-clause-room
put_part-requires-3-clause-room c = omega (arith, one-long c.args.instr.now c.requires.operands)

pub put_part-requires-4-clause-room : goal.put_part-requires-4-clause-room
put_part-requires-4-clause-room c = omega (arith, one-long c.args.instr.now c.requires.operands)

pub put_part-requires-clause-text : goal.put_part-requires-clause-text
put_part-requires-clause-text c = omega (arith, one-long c.args.instr.now c.requires.operands)

pub put_part-requires-2-clause-text : goal.put_part-requires-2-clause-text
put_part-requires-2-clause-text c = omega (arith, one-long c.args.instr.now c.requires.operands)

pub put_part-requires-3-clause-text : goal.put_part-requires-3-clause-text
put_part-requires-3-clause-text c = omega (arith, one-long c.args.instr.now c.requires.operands)

pub put_part-requires-4-clause-text : goal.put_part-requires-4-clause-text
put_part-requires-4-clause-text c = omega (arith, one-long c.args.instr.now c.requires.operands)
