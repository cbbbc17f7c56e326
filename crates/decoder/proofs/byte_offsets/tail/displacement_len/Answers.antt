use Rattle.std.proofs.Common.{arith}
use Rattle.decoder.proofs.ByteOffsets.Short.{bytes_short}
use Rattle.decoder.proofs.byte_offsets.tail.displacement_len.Goals as goal

pub returns-then-reads_mode-clause-short : goal.returns-then-reads_mode-clause-short
returns-then-reads_mode-clause-short c =
    omega (arith, c.displacement_bytes.ensures, bytes_short c.state_address_size-size.result c.in-Some.modrm c.args.sib)
