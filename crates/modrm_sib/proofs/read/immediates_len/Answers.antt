use Rattle.std.proofs.Common.{arith}
use Rattle.modrm_sib.proofs.Rows.{immediates_small}
use Rattle.modrm_sib.proofs.read.immediates_len.Goals as goal

pub returns-clause-small : goal.returns-clause-small
returns-clause-small c =
    let small = immediates_small c.state_size.result c.args.row.now c.requires in
    omega (arith, small, c.immediates_bytes.ensures.value)
