use Rattle.text_rows.proofs.RowLines.Shapes.{proper-row}
use Rattle.text_rows.proofs.row_lines.laws.rows_have_proper_shapes.Goals as goal

pub returns : goal.returns
returns c = proper-row
