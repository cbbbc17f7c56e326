use Rattle.std.proofs.Common.{arith}
use Rattle.std.proofs.Math.Facts.{Fits-of_lt}
use Rattle.plain_spelling.proofs.PlainFrontLaws.{opcode_room}
use Rattle.plain_spelling.proofs.front.asked_opcode.Goals as goal

pub overflow_add-result : goal.overflow_add-result
overflow_add-result c =
    let room = opcode_room c.args.row.now c.requires.sound c.in-Register.is in
    Fits-of_lt (omega (arith, room))
