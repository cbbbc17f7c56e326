use Rattle.std.proofs.Common.{arith, sym}
use Rattle.instruction_parts.specs.Flat.{rows_of}
use Rattle.instruction_parts.proofs.Spans.{span-read_is}
use Rattle.instruction_parts.proofs.row_lists.RowList.cell_len.Goals as goal

pub span_in-requires : goal.span_in-requires
span_in-requires c = let t = c.requires c.args.map c.args.opcode (omega arith) in (t.0, t.1)

pub returns : goal.returns
returns c =
    let list = c.args.self.now in
    let s = span-read_is list.kind c.args.map c.args.opcode list.spans.now (rows_of list.rows.now) c.span_in.result c.requires (omega arith) c.span_in.ensures in
    sym s.0
