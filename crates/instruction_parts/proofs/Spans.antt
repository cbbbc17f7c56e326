-- Spans that pass the computed test say where the rows of each cell lie.
use Rattle.std.proofs.Common.{◌≡◌, ℕ, ◌+◌, ◌<◌, Bool, true, List, [], length, get_or, slice_get, refl, sym, subst, ◌∙◌}
use Rattle.instruction_parts.specs.RowFields.Candidates.{Coded, rows_with_codes, of_number, at_opcode}
use Rattle.instruction_parts.proofs.RowFields.Cands.{below-at}
use Rattle.std.proofs.lemmas.Option.{slice_get-get_or, slice_get_within}
use Rattle.std.specs.Prelude.{Option, None, Some}
use Rattle.instruction_parts.specs.declared.row_types.Row.{Row}
use Rattle.instruction_parts.specs.declared.row_types.RowKind.{RowKind}
use Rattle.instruction_parts.specs.declared.row_types.Map.{Map}
use Rattle.instruction_parts.specs.declared.row_lists.Span.{Span}
use Rattle.instruction_parts.specs.Cells.{map_index, cell_of, cell_span}
use Rattle.instruction_parts.specs.Spans.{IsSpanOf, AreCellSpansOf}
use Rattle.instruction_parts.specs.Runs.{run_at, line_runs, first_number, spans_fit}
use Rattle.instruction_parts.proofs.Runs.{map_index-lt, length-cell, row-of_span}

run-there : (o : Option Span) (cs : List Coded) → run_at o cs ≡ true → (s : Span) × (o ≡ Some s)
unfolding run_at
run-there None cs h = cc
run-there (Some s) cs h = (s, refl)

-- each cell has a span
span-there : (k : RowKind) (m : Map) (op : ℕ) (spans : List (List Span)) (rows : List Row) → spans_fit k spans rows ≡ true → op < 256
    → (s : Span) × (cell_span spans (map_index m) op ≡ Some s)
unfolding spans_fit line_runs
span-there k m op spans rows h byte =
    let of_line : (line : ℕ) → Bool = λ line. line_runs spans line (of_number (first_number k + line) (rows_with_codes 0 rows)) in
    let cs : List Coded = of_number (first_number k + map_index m) (rows_with_codes 0 rows) in
    let here : line_runs spans (map_index m) cs ≡ true = below-at 4 of_line (map_index m) h (map_index-lt m) in
    run-there (cell_span spans (map_index m) op) (at_opcode op cs)
    (below-at 256 (λ o. run_at (cell_span spans (map_index m) o) (at_opcode o cs)) op here byte)

-- spans that pass the computed test say where the rows of each cell lie
pub spans-of_fit : (k : RowKind) (spans : List (List Span)) (rows : List Row) → spans_fit k spans rows ≡ true → AreCellSpansOf k rows spans
spans-of_fit k spans rows h m op byte =
    let s = span-there k m op spans rows h byte in
    let count : length (cell_of rows k m op) ≡ s.0.count = length-cell k m op spans rows s.0 h byte s.1 in
    (s.0, s.1, (count, λ i lt. (let t = row-of_span k m op spans rows s.0 h byte s.1 i (rw count lt) in (t.0, t.2, t.1))))

-- the span that was read is that of its cell
pub span-read_is : (k : RowKind) (m : Map) (op : ℕ) (spans : List (List Span)) (rows : List Row) (s : Span)
    → AreCellSpansOf k rows spans → op < 256 → cell_span spans (map_index m) op ≡ Some s → IsSpanOf k rows m op s
span-read_is k m op spans rows s h byte at =
    let t = h m op byte in
    let same : t.0 ≡ s = same-span t.0 s (sym t.1 ∙ at) in
    subst (IsSpanOf k rows m op) same t.2
  where
    same-span : (a b : Span) → Some a ≡ Some b → a ≡ b
    same-span a b e = cc

-- a span is read line by line
pub span-found : (spans : List (List Span)) (line op : ℕ) (s other : Span) → line < length spans → cell_span spans line op ≡ Some s
    → cell_span spans line op ≡ Some (get_or (get_or spans line []) op other)
unfolding cell_span
span-found spans line op s other lt at =
    let here : slice_get spans line ≡ Some (get_or spans line []) = slice_get-get_or spans line [] lt in
    let is : cell_span spans line op ≡ slice_get (get_or spans line []) op = rw here refl in
    is ∙ slice_get-get_or (get_or spans line []) op other (slice_get_within (get_or spans line []) op s (sym is ∙ at))
