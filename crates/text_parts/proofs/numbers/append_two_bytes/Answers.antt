use Rattle.std.proofs.Common.{◌∙◌, arith}
use Rattle.text_parts.proofs.ByteDigits.{front-fits, last-byte-fits, last-byte-appended}
use Rattle.text_parts.proofs.numbers.append_two_bytes.Goals as goal

pub append_byte-requires : goal.append_byte-requires
append_byte-requires g c = omega (arith, front-fits c.args.out.now.items c.args.n _ c.requires.room (omega arith) (omega arith))

pub append_last_byte-requires : goal.append_last_byte-requires
append_last_byte-requires g c =
    omega (arith, last-byte-fits c.args.out.now.items _ c.args.n _ c.append_byte.ensures c.requires.room (omega arith) (omega arith))

pub returns : goal.returns
returns g c =
    c.append_last_byte.ensures ∙ last-byte-appended c.args.out.now.items _ c.args.n c.append_byte.ensures (omega arith) (omega arith)
