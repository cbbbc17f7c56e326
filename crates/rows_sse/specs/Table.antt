-- The MMX and SSE rows as one list, and where those of each cell lie.
use Rattle.std.specs.Prelude.{List}
use Rattle.instruction_parts.specs.declared.row_types.Row.{Row}
use Rattle.instruction_parts.specs.declared.row_lists.FlatRow.{FlatRow}
use Rattle.instruction_parts.specs.declared.row_lists.Span.{Span}
use Rattle.instruction_parts.specs.Flat.{rows_of}
use Rattle.rows_sse.specs.declared.generated_table.TheConstants.{FLAT_ROWS, SPANS}

-- the rows as they lie in the table of constants
unfoldable pub flat_rows : List FlatRow
flat_rows = FLAT_ROWS

-- the rows in their order
unfoldable pub table : List Row
unfolding flat_rows
table = rows_of flat_rows

-- where the rows of each cell lie: for each map a line of spans by opcode byte
unfoldable pub spans : List (List Span)
spans = SPANS
