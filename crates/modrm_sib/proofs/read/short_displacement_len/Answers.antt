use Rattle.std.proofs.Common.{arith}
use Rattle.modrm_sib.proofs.Rows.{displacement_small}
use Rattle.modrm_sib.proofs.read.short_displacement_len.Goals as goal

pub returns-clause-small : goal.returns-clause-small
returns-clause-small c =
    let small = displacement_small c.args.bits c.args.row.now c.args.state.now c.args.m c.args.sib in
    omega (arith, small, c.displacement_len.ensures)
