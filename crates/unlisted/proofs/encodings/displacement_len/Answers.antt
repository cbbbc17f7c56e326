use Rattle.std.proofs.Common.{arith}
use Rattle.unlisted.proofs.Lengths.{displacement-small}
use Rattle.unlisted.proofs.encodings.displacement_len.Goals as goal

pub returns-clause-small : goal.returns-clause-small
returns-clause-small c =
    let small = displacement-small c.args.asize c.args.m c.args.sib in omega (arith, small, c.displacement_bytes.ensures)
