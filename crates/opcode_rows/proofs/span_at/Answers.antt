use Rattle.std.proofs.Common.{arith}
use Rattle.opcode_rows.proofs.CellRuns.{span-known}
use Rattle.opcode_rows.proofs.span_at.Goals as goal

pub span_in-requires : goal.span_in-requires
span_in-requires c = rw c.kind_spans.ensures (span-known c.args.kind c.args.map c.args.opcode (omega arith))

pub returns : goal.returns
returns c = rw (← c.kind_spans.ensures) c.span_in.ensures
