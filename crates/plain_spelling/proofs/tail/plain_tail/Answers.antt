use Rattle.plain_spelling.proofs.ImmediateRoom.{immediates-short, number-below}
use Rattle.plain_spelling.proofs.tail.plain_tail.Goals as goal

pub plain_immediates-requires-clause-numbers : goal.plain_immediates-requires-clause-numbers
plain_immediates-requires-clause-numbers c = number-below c.args.bits c.args.row.now c.args.instr.now c.requires.registers

pub plain_immediates-requires-clause-room : goal.plain_immediates-requires-clause-room
plain_immediates-requires-clause-room c = immediates-short c.args.parts.now.size c.args.row.now c.requires.sound
