use Rattle.std.proofs.Common.{arith, sym}
use Rattle.opcode_rows.proofs.CellRuns.{length-cell_at}
use Rattle.opcode_rows.proofs.cell_len.Goals as goal

pub returns : goal.returns
returns c = sym (length-cell_at c.args.kind c.args.map c.args.opcode c.span_at.result (omega arith) c.span_at.ensures)
