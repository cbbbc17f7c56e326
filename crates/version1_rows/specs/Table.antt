-- Version 1 of the table: its rows and their names, by code.
use Rattle.std.specs.Prelude.{ℕ, List, ◌++◌, map}
use Rattle.instruction_parts.specs.declared.row_types.Row.{Row}
use Rattle.instruction_parts.specs.declared.row_lists.FlatRow.{FlatRow}
use Rattle.instruction_parts.specs.Flat.{rows_of}
use Rattle.version1_rows.specs.declared.table.TheConstants.{LEGACY_ROWS, VEX_ROWS}
use Rattle.version1_rows.specs.declared.names.TheConstants.{NAMES}

-- the legacy rows of version 1, by code
unfoldable pub legacy_rows : List FlatRow
legacy_rows = LEGACY_ROWS

-- the VEX rows of version 1, which stand behind them
unfoldable pub vex_rows : List FlatRow
vex_rows = VEX_ROWS

-- the rows: the legacy ones, then those behind a VEX
unfoldable pub table : List Row
unfolding legacy_rows vex_rows
table = rows_of legacy_rows ++ rows_of vex_rows

-- the names, as bytes
unfoldable pub names : List (List ℕ)
names = map (λ name. name.now) NAMES
