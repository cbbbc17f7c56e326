-- The cells of a list of rows: a cell is a kind, a map and an opcode byte.
use Rattle.std.specs.Prelude.{◌≡◌, ℕ, ◌+◌, ◌<◌, ◌≤◌, ◌↔◌, List, Option, Some, None, slice_get, IsTrue, Bool}
use Rattle.instruction_parts.specs.declared.row_types.Row.{Row}
use Rattle.instruction_parts.specs.declared.row_types.RowKind.{RowKind}
use Rattle.instruction_parts.specs.declared.row_types.Map.{Map}
use Rattle.instruction_parts.specs.declared.row_types.Map.TheVariants.{One, M0f, M0f38, M0f3a}
use Rattle.instruction_parts.specs.RowFields.Holds.{is_vex, map_number, rows_at, stands_in}
use Rattle.instruction_parts.specs.declared.row_lists.Span.{Span}

-- the index of a map among the lines of cells
abbrev pub map_index : Map → ℕ
map_index One = 0
map_index M0f = 1
map_index M0f38 = 2
map_index M0f3a = 3

-- the kind and map by number
abbrev pub line_number : RowKind → Map → ℕ
line_number kind m = map_number (is_vex kind) m

-- a row stands in the cell: a row that adds a register to its opcode byte stands in eight
abbrev pub stands_in_cell : RowKind → Map → ℕ → Row → Bool
stands_in_cell kind m op row = stands_in row (line_number kind m) op

-- the rows of a list that stand in a cell, in their order
unfoldable pub cell_of : List Row → RowKind → Map → ℕ → List Row
cell_of rows kind m op = rows_at (line_number kind m) op rows

-- where the rows of a cell lie, from lines of spans
unfoldable pub cell_span : List (List Span) → ℕ → ℕ → Option Span
cell_span spans line op = span_in (slice_get spans line)
  where
    span_in : Option (List Span) → Option Span
    span_in None = None
    span_in (Some l) = slice_get l op

-- the rows of a cell are those from a first index on: a row of the list stands in the cell exactly where its index is one of them
abbrev pub IsRunOf : List Row → RowKind → Map → ℕ → ℕ → ℕ → Type 0
IsRunOf rows kind m op first count =
    (code : ℕ) (row : Row) → slice_get rows code ≡ Some row
    → IsTrue (stands_in_cell kind m op row) ↔ ((first ≤ code) × (code < first + count))
