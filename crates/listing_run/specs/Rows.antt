-- The text of `rows`: a line for each row of the table.
use Rattle.std.specs.Prelude.{ℕ, List}
use Rattle.std.specs.List.{flat_map, range_with_len}
use Rattle.opcode_rows.specs.declared.generated_spots.TheConstants.{ROWS}
use Rattle.text_rows.specs.RowLines.Lines.{row_line}

-- the lines of the codes below a number, in their order
unfoldable pub lines_below : ℕ → List ℕ
lines_below count = flat_map row_line (range_with_len 0 count)

-- the lines of all rows
abbrev pub rows_text : List ℕ
rows_text = lines_below ROWS
