use Rattle.std.proofs.Common.{◌≡◌}
use Rattle.instruction_parts.specs.Front.{front_of, Known}
use Rattle.decoder.proofs.ByteOffsets.FrontRead.{no_error, front_known, front_small}
use Rattle.decoder.proofs.byte_offsets.parts.front_read.Goals as goal

pub unreachable-requires : goal.unreachable-requires
unreachable-requires c =
    no_error c.front_is_state.ensures c.args.bits c.args.ip c.args.bytes.now c.args.decoded.now c.requires _ c.in-Err.ensures

pub returns : goal.returns
returns c =
    let known : front_of c.args.bits c.args.bytes.now ≡ Known c.in-Ok.state =
    front_known c.front_is_state.ensures c.args.bits c.args.ip c.args.bytes.now c.args.decoded.now c.requires c.in-Ok.state c.in-Ok.ensures in
    let small = front_small c.front_is_state.ensures c.args.bits c.args.ip c.args.bytes.now c.args.decoded.now c.requires c.in-Ok.state known in
    record { known = known; short = small.short; inside = small.inside; lead = small.lead }
