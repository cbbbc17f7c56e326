-- Where the rows of each cell lie, as a test that spans say it.
use Rattle.std.specs.Prelude.{ℕ, Bool, false, ◌+◌, ◌-◌, List, Option, Some, None}
use Rattle.instruction_parts.specs.declared.row_types.Row.{Row}
use Rattle.instruction_parts.specs.declared.row_types.RowKind.{RowKind}
use Rattle.instruction_parts.specs.declared.row_types.RowKind.TheVariants as kind
use Rattle.instruction_parts.specs.declared.row_types.Map.{Map}
use Rattle.instruction_parts.specs.declared.row_lists.Span.{Span}
use Rattle.instruction_parts.specs.Cells.{line_number, cell_span}
use Rattle.instruction_parts.specs.RowFields.Candidates.{Coded, rows_with_codes, of_number, at_opcode, below, is_run}

-- a span says where some rows lie: their codes follow one another from its first, and they are as many
unfoldable pub run_at : Option Span → List Coded → Bool
unfolding is_run
run_at None cs = false
run_at (Some s) cs = is_run s.first s.count cs

-- the spans of a line say where the rows of each opcode byte lie
unfoldable pub line_runs : List (List Span) → ℕ → List Coded → Bool
unfolding below run_at at_opcode cell_span
line_runs spans line rows = below 256 (λ op. run_at (cell_span spans line op) (at_opcode op rows))

-- the first number of a kind's maps
abbrev pub first_number : RowKind → ℕ
first_number kind.Legacy = 0
first_number kind.Vex = 4

-- the spans of a kind say where its rows lie
unfoldable pub spans_fit : RowKind → List (List Span) → List Row → Bool
unfolding below line_runs of_number rows_with_codes
spans_fit k spans rows =
    let cs : List Coded = rows_with_codes 0 rows in
    below 4 (λ line. line_runs spans line (of_number (first_number k + line) cs))

-- the rows of a cell with their indices
abbrev pub coded_cell : List Row → RowKind → Map → ℕ → List Coded
coded_cell rows k m op = at_opcode op (of_number (line_number k m) (rows_with_codes 0 rows))
