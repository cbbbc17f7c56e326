-- Where the rows of each cell of a list lie.
use Rattle.std.specs.Prelude.{◌≡◌, ℕ, ◌+◌, ◌<◌, List, length, Some, slice_get}
use Rattle.instruction_parts.specs.declared.row_types.Row.{Row}
use Rattle.instruction_parts.specs.declared.row_types.RowKind.{RowKind}
use Rattle.instruction_parts.specs.declared.row_types.Map.{Map}
use Rattle.instruction_parts.specs.declared.row_lists.Span.{Span}
use Rattle.instruction_parts.specs.Cells.{map_index, cell_of, cell_span}

-- a cell has as many rows as its span counts, and they are those of the list from the span's first index on
abbrev pub IsSpanOf : RowKind → List Row → Map → ℕ → Span → Type 0
IsSpanOf kind rows m op s =
    (length (cell_of rows kind m op) ≡ s.count)
    × ((i : ℕ) → i < s.count → (row : Row) × (slice_get rows (s.first + i) ≡ Some row) × (slice_get (cell_of rows kind m op) i ≡ Some row))

-- the spans say where the rows of each cell lie
abbrev pub AreCellSpansOf : RowKind → List Row → List (List Span) → Type 0
AreCellSpansOf kind rows spans =
    (m : Map) (op : ℕ) → op < 256 → (s : Span) × (cell_span spans (map_index m) op ≡ Some s) × IsSpanOf kind rows m op s
