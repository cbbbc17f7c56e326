use Rattle.std.proofs.Common.{◌<◌, length, arith}
use Rattle.instruction_parts.specs.Cells.{map_index}
use Rattle.instruction_parts.proofs.Spans.{span-found}
use Rattle.instruction_parts.proofs.row_lists.span_in.Goals as goal

pub returns : goal.returns
returns c =
    let lt : map_index c.args.map < length c.args.spans.now = omega (arith, c.map_number.ensures.range, c.map_number.ensures.number) in
    rw c.map_number.ensures.number (span-found c.args.spans.now (map_index c.args.map) c.args.opcode c.requires.0 _ lt c.requires.1)
