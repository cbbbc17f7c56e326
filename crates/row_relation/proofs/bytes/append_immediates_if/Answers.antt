use Rattle.std.proofs.Common.{◌≡◌, sym, arith}
use Rattle.std.proofs.lemmas.List.{append-nil}
use Rattle.row_fit.specs.Fits.{immediates_bytes}
use Rattle.plain_spelling.proofs.ImmediateBytes.{no_immediates}
use Rattle.row_relation.proofs.bytes.append_immediates_if.Goals as goal

pub returns-else-count-gt0 : goal.returns-else-count-gt0
returns-else-count-gt0 c =
    let none : immediates_bytes c.args.size c.args.row.now ≡ 0 = omega (arith, c.requires.count, c.if-count-gt0.false) in
    rw (no_immediates c.args.size c.args.row.now c.args.instr.now c.args.next none) (sym (append-nil _))
