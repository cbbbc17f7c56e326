-- The lines of the constant table.
use Rattle.std.specs.Prelude.{List}
use Rattle.operand_info.specs.declared.columns.Columns.{Columns}
use Rattle.operand_info.specs.declared.generated_columns.TheConstants.{COLUMNS}

-- the lines, by code
unfoldable pub columns : List Columns
columns = COLUMNS
