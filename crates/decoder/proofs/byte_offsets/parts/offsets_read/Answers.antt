use Rattle.std.proofs.Common.{arith}
use Rattle.decoder.proofs.ByteOffsets.FrontRead.{offsets_right, made_of}
use Rattle.decoder.proofs.byte_offsets.parts.offsets_read.Goals as goal

pub returns : goal.returns
returns c =
    let row = c.row_of-row.result in
    let state = c.front_read-state.result in
    offsets_right c.front_is_state.ensures c.fits_each_condition.ensures c.args.bits c.args.ip c.args.bytes.now c.args.decoded.now c.requires.reads row
    c.row_of-row.ensures state c.front_read-state.ensures.known c.offsets_by.result
    (made_of c.args.bits row state c.args.bytes.now _ _ _ c.offsets_by.result _ c.offsets_by.ensures c.lengths_in-lengths.ensures.value
    c.state_size.ensures c.split_at.ensures.back (omega (arith, c.from.ensures)))
