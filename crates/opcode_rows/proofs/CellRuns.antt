-- The rows of each cell are a run of codes.
use Rattle.std.proofs.Common.{◌≡◌, ℕ, Bool, true, refl, List, is_some, ◌+◌, ◌<◌, ◌≤◌, length, ◌-◌, arith}
use Rattle.instruction_parts.specs.RowFields.Candidates.{rows_with_codes, of_number, at_opcode, below, is_run}
use Rattle.instruction_parts.proofs.RowFields.Cands.{below-at}
use Rattle.std.specs.Prelude.{Option, None, Some}
use Rattle.std.proofs.lemmas.Option.{slice_get_within}
use Rattle.instruction_parts.specs.declared.row_types.RowKind.{RowKind}
use Rattle.instruction_parts.specs.declared.row_types.RowKind.TheVariants as kind
use Rattle.instruction_parts.specs.declared.row_types.Map.{Map}
use Rattle.instruction_parts.specs.declared.row_lists.Span.{Span}
use Rattle.instruction_parts.specs.Cells.{map_index, cell_span, IsRunOf}
use Rattle.instruction_parts.specs.Runs.{run_at, spans_fit}
use Rattle.opcode_rows.proofs.Blocks.{each_of_256, each_of_16, near_rows, fit_by_16, fit-by_16}
use Rattle.instruction_parts.proofs.Runs.{map_index-lt, length-cell, row-of_span, run-of_span}
use Rattle.opcode_rows.specs.Parts.{integer_rows, integer_flat, x87_rows, x87_flat, sse_rows, sse_flat, vex_rows, vex_flat}
use Rattle.opcode_rows.specs.declared.generated_spots.TheConstants.{ROWS}
use Rattle.opcode_rows.proofs.Woven.{woven, woven_table, by_walk}
use Rattle.opcode_rows.specs.Table.{spots, table, cell, legacy_spans, vex_spans, table_spans}
use Rattle.opcode_rows.proofs.JoinFacts.{length-table}

legacy_runs : fit_by_16 kind.Legacy legacy_spans woven_table ≡ true
unfolding fit_by_16 each_of_256 each_of_16 near_rows rows_with_codes of_number at_opcode below is_run run_at cell_span legacy_spans woven_table woven spots integer_rows integer_flat x87_rows x87_flat sse_rows sse_flat vex_rows vex_flat
legacy_runs = refl

vex_runs : fit_by_16 kind.Vex vex_spans woven_table ≡ true
unfolding fit_by_16 each_of_256 each_of_16 near_rows rows_with_codes of_number at_opcode below is_run run_at cell_span vex_spans woven_table woven spots integer_rows integer_flat x87_rows x87_flat sse_rows sse_flat vex_rows vex_flat
vex_runs = refl

runs_of : (k : RowKind) → spans_fit k (table_spans k) table ≡ true
runs_of kind.Legacy = fit-by_16 kind.Legacy legacy_spans table (by_walk (fit_by_16 kind.Legacy legacy_spans) legacy_runs)
runs_of kind.Vex = fit-by_16 kind.Vex vex_spans table (by_walk (fit_by_16 kind.Vex vex_spans) vex_runs)

-- a cell has as many rows as its span says
pub length-cell_at : (k : RowKind) (m : Map) (op : ℕ) (s : Span) → op < 256 → cell_span (table_spans k) (map_index m) op ≡ Some s → length (cell k m op) ≡ s.count
length-cell_at k m op s byte at = length-cell k m op (table_spans k) table s (runs_of k) byte at

-- its rows lie where its span says
pub run-cell_at : (k : RowKind) (m : Map) (op : ℕ) (s : Span) → op < 256 → cell_span (table_spans k) (map_index m) op ≡ Some s
    → IsRunOf table k m op s.first (length (cell k m op))
run-cell_at k m op s byte at =
    rw (length-cell_at k m op s byte at) (run-of_span k m op (table_spans k) table s (runs_of k) byte at)

-- a cell that has rows ends within the table
pub cell-within : (k : RowKind) (m : Map) (op : ℕ) (s : Span) → op < 256 → cell_span (table_spans k) (map_index m) op ≡ Some s
    → 0 < s.count → s.first + length (cell k m op) ≤ ROWS
cell-within k m op s byte at some =
    let count : length (cell k m op) ≡ s.count = length-cell_at k m op s byte at in
    let lt : s.count - 1 < length (cell k m op) = omega (arith, count, some) in
    let t = row-of_span k m op (table_spans k) table s (runs_of k) byte at (s.count - 1) lt in
    let within : s.first + (s.count - 1) < length table = slice_get_within table (s.first + (s.count - 1)) t.0 t.2 in
    omega (arith, within, length-table, count, some)

-- each map has a line of spans, each line a span of each opcode byte

unfoldable has_span : List (List Span) → ℕ → ℕ → Bool
unfolding cell_span
has_span spans line op = is_some (cell_span spans line op)

unfoldable has_spans : List (List Span) → Bool
unfolding below has_span
has_spans spans = below 4 (λ line. below 256 (λ op. has_span spans line op))

legacy_has_spans : has_spans legacy_spans ≡ true
unfolding below has_span has_spans cell_span legacy_spans
legacy_has_spans = refl

vex_has_spans : has_spans vex_spans ≡ true
unfolding below has_span has_spans cell_span vex_spans
vex_has_spans = refl

each_has_spans : (k : RowKind) → has_spans (table_spans k) ≡ true
each_has_spans kind.Legacy = legacy_has_spans
each_has_spans kind.Vex = vex_has_spans

some-known : (o : Option Span) → is_some o ≡ true → (s : Span) × (o ≡ Some s)
some-known None h = cc
some-known (Some s) h = (s, refl)

-- the span of a cell
pub span-known : (k : RowKind) (m : Map) (op : ℕ) → op < 256 → (s : Span) × (cell_span (table_spans k) (map_index m) op ≡ Some s)
unfolding has_span has_spans
span-known k m op byte =
    let line : below 256 (λ o. has_span (table_spans k) (map_index m) o) ≡ true =
    below-at 4 (λ l. below 256 (λ o. has_span (table_spans k) l o)) (map_index m) (each_has_spans k) (map_index-lt m)
    in
    some-known (cell_span (table_spans k) (map_index m) op) (below-at 256 (λ o. has_span (table_spans k) (map_index m) o) op line byte)

-- the rows of each cell lie one after the other
pub run-cell : (k : RowKind) (m : Map) (op : ℕ) → op < 256 → (first : ℕ) × IsRunOf table k m op first (length (cell k m op))
run-cell k m op byte = let s = span-known k m op byte in (s.0.first, run-cell_at k m op s.0 byte s.1)
