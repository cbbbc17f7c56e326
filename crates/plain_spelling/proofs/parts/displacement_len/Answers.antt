use Rattle.std.proofs.Common.{arith}
use Rattle.std.proofs.Math.Facts.{Fits-of_lt}
use Rattle.row_fit.proofs.SoundLaws.{sound_conditions}
use Rattle.plain_spelling.specs.PlainTail.{address_operand}
use Rattle.plain_spelling.proofs.Asked.{asked_displacement, displacement-short}
use Rattle.plain_spelling.proofs.parts.displacement_len.Goals as goal

pub returns-clause-value : goal.returns-clause-value
returns-clause-value c =
    let e = asked_displacement c.args.row.now c.args.instr.now (sound_conditions c.args.row.now c.requires.sound) in
    cc

pub returns-clause-small : goal.returns-clause-small
returns-clause-small c =
    let most = displacement-short (address_operand c.args.row.now c.args.instr.now) in
    omega (arith, most, returns-clause-value c)

pub overflow_cast-result : goal.overflow_cast-result
overflow_cast-result c = Fits-of_lt (omega (arith, returns-clause-small c))
