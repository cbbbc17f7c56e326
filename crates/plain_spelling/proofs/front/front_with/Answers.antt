use Rattle.std.proofs.Common.{◌∙◌, min}
use Rattle.plain_spelling.specs.PlainFront.{number_in_vvvv, number_asked_of, plain_front_of, byte_front}
use Rattle.plain_spelling.proofs.PlainFrontLaws.{used-with, byte_front-exact}
use Rattle.plain_spelling.proofs.ImmediateRoom.{vvvv-byte}
use Rattle.plain_spelling.proofs.front.front_with.Goals as goal

pub returns-clause-value : goal.returns-clause-value
unfolding byte_front plain_front_of
returns-clause-value c =
    let used = used-with c.args.bits c.args.row.now c.args.instr.now (min 255 (number_asked_of number_in_vvvv c.args.row.now c.args.instr.now)) in
    cc

pub returns-clause-exact : goal.returns-clause-exact
returns-clause-exact c h =
    returns-clause-value c
    ∙ byte_front-exact c.args.bits c.args.row.now c.args.instr.now (vvvv-byte c.args.bits c.args.row.now c.args.instr.now c.requires.sound h)
