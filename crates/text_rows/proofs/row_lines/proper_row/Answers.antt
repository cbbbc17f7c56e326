use Rattle.text_rows.proofs.RowLines.Shapes.{proper-row}
use Rattle.text_rows.proofs.row_lines.proper_row.Goals as goal

pub returns-clause-proper : goal.returns-clause-proper
returns-clause-proper c = proper-row c.args.code.0 c.row_of.result c.row_of.ensures
