-- What the table's row of a code gives.
use Rattle.std.specs.Prelude.{ℕ, List, [], Option, Some, None, slice_get}
use Rattle.instruction_parts.specs.declared.row_types.Row.{Row}
use Rattle.opcode_rows.specs.Table.{table}

-- what a function gives of a row that is there, and else nothing
abbrev pub at_row : (Row → List ℕ) → Option Row → List ℕ
at_row f None = []
at_row f (Some row) = f row

-- what a function gives of the row of a code
unfoldable pub at_code : (Row → List ℕ) → ℕ → List ℕ
at_code f code = at_row f (slice_get table code)
