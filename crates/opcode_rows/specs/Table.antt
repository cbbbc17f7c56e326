-- The opcode table: one list of rows, from those of the crates of rows; a row's code is its position.
use Rattle.std.specs.Prelude.{ℕ, List, [], ◌∷◌, ◌++◌, map, Option, Some, None, slice_get, unwrap_or}
use Rattle.instruction_parts.specs.declared.row_types.Row.{Row}
use Rattle.instruction_parts.specs.declared.row_types.RowKind.{RowKind}
use Rattle.instruction_parts.specs.declared.row_types.RowKind.TheVariants as kind
use Rattle.instruction_parts.specs.declared.row_types.Map.{Map}
use Rattle.instruction_parts.specs.declared.row_lists.Span.{Span}
use Rattle.instruction_parts.specs.Cells.{cell_of}
use Rattle.opcode_rows.specs.Parts.{integer_rows, x87_rows, sse_rows, vex_rows}
use Rattle.opcode_rows.specs.declared.spot.Part.{Part}
use Rattle.opcode_rows.specs.declared.spot.Part.TheVariants as part
use Rattle.opcode_rows.specs.declared.spot.Spot.{Spot}
use Rattle.opcode_rows.specs.declared.generated_spots.TheConstants.{SPOTS}
use Rattle.opcode_rows.specs.declared.generated_cells.TheConstants.{LEGACY_SPANS, VEX_SPANS}
use Rattle.opcode_rows.specs.declared.generated_names.TheConstants.{NAMES_FROM_0, NAMES_FROM_512, NAMES_FROM_1024, NAMES_FROM_1536, ADDED_NAMES}

-- the rows of a part
abbrev pub part_table : Part → List Row
part_table part.Integer = integer_rows
part_table part.X87 = x87_rows
part_table part.Sse = sse_rows
part_table part.Vex = vex_rows

-- where the rows lie, by code
unfoldable pub spots : List Spot
spots = SPOTS

-- the rows with one in front, where there is one
abbrev pub with_item : Option Row → List Row → List Row
with_item None rows = rows
with_item (Some r) rows = r ∷ rows

-- the rows that lie at these spots
unfoldable pub rows_in : List Spot → List Row
rows_in [] = []
rows_in (s ∷ ss) = with_item (slice_get (part_table s.part) s.at) (rows_in ss)

-- the table
unfoldable pub table : List Row
unfolding rows_in spots
table = rows_in spots

-- the rows that stand at an opcode byte of a kind and map, in their order
abbrev pub cell : RowKind → Map → ℕ → List Row
cell kind m op = cell_of table kind m op

-- the names of the rows of version 1, 512 a list, and the last one the rest
abbrev pub names_from_0 : List (List ℕ)
names_from_0 = map (λ name. name.now) NAMES_FROM_0

-- the second 512 names
abbrev pub names_from_512 : List (List ℕ)
names_from_512 = map (λ name. name.now) NAMES_FROM_512

-- the third 512 names
abbrev pub names_from_1024 : List (List ℕ)
names_from_1024 = map (λ name. name.now) NAMES_FROM_1024

-- the names from row 1,536 on
abbrev pub names_from_1536 : List (List ℕ)
names_from_1536 = map (λ name. name.now) NAMES_FROM_1536

-- the names of the rows that version 2 adds
abbrev pub added_names : List (List ℕ)
added_names = map (λ name. name.now) ADDED_NAMES

-- the names, by code
unfoldable pub names : List (List ℕ)
names = names_from_0 ++ (names_from_512 ++ (names_from_1024 ++ (names_from_1536 ++ added_names)))

-- the name of a row by its code, as bytes
unfoldable pub name_of : ℕ → List ℕ
name_of code = unwrap_or (slice_get names code) []

-- where the legacy rows of each cell lie
unfoldable pub legacy_spans : List (List Span)
legacy_spans = LEGACY_SPANS

-- where the VEX rows of each cell lie
unfoldable pub vex_spans : List (List Span)
vex_spans = VEX_SPANS

-- where the rows of each cell of a kind lie
abbrev pub table_spans : RowKind → List (List Span)
table_spans kind.Legacy = legacy_spans
table_spans kind.Vex = vex_spans
