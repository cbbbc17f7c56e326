use Rattle.std.proofs.Common.{◌≡◌, sym, arith}
use Rattle.std.proofs.lemmas.List.{append-nil}
use Rattle.plain_spelling.specs.PlainTail.{address_operand, operand_displacement}
use Rattle.plain_spelling.proofs.ImmediateBytes.{no_displacement}
use Rattle.row_relation.proofs.bytes.append_displacement_if.Goals as goal

pub returns-else-count-gt0-clause-items : goal.returns-else-count-gt0-clause-items
returns-else-count-gt0-clause-items c =
    let none : operand_displacement (address_operand c.args.row.now c.args.instr.now) ≡ 0 = omega (arith, c.requires.count, c.if-count-gt0.false) in
    rw (no_displacement c.args.next (address_operand c.args.row.now c.args.instr.now) none) (sym (append-nil _))
