-- A computed test that spans say where the rows of each cell lie, and what follows from it.
use Rattle.std.proofs.Common.{◌≡◌, ℕ, Bool, true, false, zero, suc, ◌+◌, ◌-◌, refl, ap, sym, ◌∙◌, arith, List, [], ◌∷◌, ◌<◌, map, length, slice_get, option_map, inl, inr, lit<}
use Rattle.instruction_parts.specs.RowFields.Candidates.{Coded, rows_with_codes, of_number, at_opcode, below, is_run}
use Rattle.instruction_parts.proofs.RowFields.Cands.{at_opcode-keep_if, below-at}
use Rattle.std.specs.Prelude.{Option, Some, None, ◌==◌}
use Rattle.std.proofs.lemmas.Option.{slice_get-map, slice_get_within}
use Rattle.std.proofs.lemmas.List.{length-map}
use Rattle.instruction_parts.specs.declared.row_types.Row.{Row}
use Rattle.instruction_parts.specs.declared.row_types.RowKind.{RowKind}
use Rattle.instruction_parts.specs.declared.row_types.RowKind.TheVariants as kind
use Rattle.instruction_parts.specs.declared.row_types.Map.{Map}
use Rattle.instruction_parts.specs.declared.row_types.Map.TheVariants.{One, M0f, M0f38, M0f3a}
use Rattle.instruction_parts.specs.RowFields.Holds.{is_vex, map_number, keep_if, stands_in}
use Rattle.instruction_parts.proofs.RowFields.Cells.{length-is_run, code-is_run, rows-of_cell, table-at_code}
use Rattle.instruction_parts.proofs.RowFields.Apart.{bool_cases}
use Rattle.instruction_parts.specs.declared.row_lists.Span.{Span}
use Rattle.instruction_parts.specs.Cells.{map_index, line_number, cell_of, cell_span, IsRunOf}
use Rattle.instruction_parts.specs.Runs.{run_at, line_runs, first_number, spans_fit, coded_cell}

-- the index of a map is below 4
pub map_index-lt : (m : Map) → map_index m < 4
map_index-lt One = lit< tt
map_index-lt M0f = lit< tt
map_index-lt M0f38 = lit< tt
map_index-lt M0f3a = lit< tt

line_number-is : (k : RowKind) (m : Map) → first_number k + map_index m ≡ line_number k m
line_number-is kind.Legacy One = refl
line_number-is kind.Legacy M0f = refl
line_number-is kind.Legacy M0f38 = refl
line_number-is kind.Legacy M0f3a = refl
line_number-is kind.Vex One = refl
line_number-is kind.Vex M0f = refl
line_number-is kind.Vex M0f38 = refl
line_number-is kind.Vex M0f3a = refl

span-is_run : (k : RowKind) (m : Map) (op : ℕ) (spans : List (List Span)) (rows : List Row) (s : Span)
    → spans_fit k spans rows ≡ true → op < 256 → cell_span spans (map_index m) op ≡ Some s
    → is_run s.first s.count (coded_cell rows k m op) ≡ true
unfolding spans_fit line_runs run_at
span-is_run k m op spans rows s h byte at =
    let of_line : (line : ℕ) → Bool = λ line. line_runs spans line (of_number (first_number k + line) (rows_with_codes 0 rows)) in
    let here : line_runs spans (map_index m) (of_number (first_number k + map_index m) (rows_with_codes 0 rows)) ≡ true =
    below-at 4 of_line (map_index m) h (map_index-lt m) in
    let numbered : line_runs spans (map_index m) (of_number (line_number k m) (rows_with_codes 0 rows)) ≡ true =
    ap (λ n. line_runs spans (map_index m) (of_number n (rows_with_codes 0 rows))) (sym (line_number-is k m)) ∙ here in
    let cell : run_at (cell_span spans (map_index m) op) (coded_cell rows k m op) ≡ true =
    below-at 256 (λ o. run_at (cell_span spans (map_index m) o) (at_opcode o (of_number (line_number k m) (rows_with_codes 0 rows)))) op numbered byte in
    ap (λ o. run_at o (coded_cell rows k m op)) (sym at) ∙ cell

cell-rows : (k : RowKind) (m : Map) (op : ℕ) (rows : List Row) → map (λ c. c.row) (coded_cell rows k m op) ≡ cell_of rows k m op
unfolding cell_of
cell-rows k m op rows = rows-of_cell (line_number k m) op 0 rows

-- a cell has as many rows as its span says
pub length-cell : (k : RowKind) (m : Map) (op : ℕ) (spans : List (List Span)) (rows : List Row) (s : Span)
    → spans_fit k spans rows ≡ true → op < 256 → cell_span spans (map_index m) op ≡ Some s → length (cell_of rows k m op) ≡ s.count
length-cell k m op spans rows s h byte at =
    ap length (sym (cell-rows k m op rows)) ∙ length-map (coded_cell rows k m op) (λ c. c.row)
    ∙ length-is_run s.first s.count (coded_cell rows k m op) (span-is_run k m op spans rows s h byte at)

slice_get-known : {A : Type 0} (cs : List A) (i : ℕ) → i < length cs → (c : A) × (slice_get cs i ≡ Some c)
slice_get-known [] i lt = absurd (omega arith)
slice_get-known (c ∷ cs) zero lt = (c, refl)
slice_get-known (c ∷ cs) (suc i) lt = slice_get-known cs i (omega arith)

-- the i-th row of a cell is the list's, at the index that lies i behind the first
pub row-of_span : (k : RowKind) (m : Map) (op : ℕ) (spans : List (List Span)) (rows : List Row) (s : Span)
    → spans_fit k spans rows ≡ true → op < 256 → cell_span spans (map_index m) op ≡ Some s → (i : ℕ) → i < length (cell_of rows k m op)
    → (r : Row) × (slice_get (cell_of rows k m op) i ≡ Some r) × (slice_get rows (s.first + i) ≡ Some r)
row-of_span k m op spans rows s h byte at i lt =
    let cs : List Coded = coded_cell rows k m op in
    let count : length cs ≡ length (cell_of rows k m op) = sym (length-map cs (λ c. c.row)) ∙ ap length (cell-rows k m op rows) in
    let found = slice_get-known cs i (rw (← count) at lt) in
    let c : Coded = found.0 in
    let code : c.code ≡ s.first + i = code-is_run s.first s.count cs (span-is_run k m op spans rows s h byte at) i c found.1 in
    let t = table-at_code (line_number k m) op 0 rows i c found.1 in
    let index : t.0 ≡ s.first + i = omega (arith, t.1, code) in
    let here : slice_get (cell_of rows k m op) i ≡ Some c.row =
    ap (λ l. slice_get l i) (sym (cell-rows k m op rows)) ∙ slice_get-map (λ d. d.row) cs i ∙ ap (option_map (λ d. d.row)) found.1
    in
    (c.row, here, rw index at t.2)

-- ---- the rows of a cell are those of its run

abbrev coded_as : ℕ → Row → Coded
coded_as code row = record { code = code; row = row }

-- a row that stands in the cell is among its rows with its index
found-in_cell : (number op first : ℕ) (rows : List Row) (k : ℕ) (r : Row) → slice_get rows k ≡ Some r → stands_in r number op ≡ true
    → (i : ℕ) × (slice_get (at_opcode op (of_number number (rows_with_codes first rows))) i ≡ Some (record { code = first + k; row = r }))
unfolding rows_with_codes of_number at_opcode
found-in_cell number op first [] k r at met = cc
found-in_cell number op first (x ∷ rs) zero r at met =
    let same : x ≡ r = cc in
    let met' : stands_in x number op ≡ true = ap (λ y. stands_in y number op) same ∙ met in
    let c : Coded = record { code = first; row = x } in
    let d : Coded = record { code = first + 0; row = r } in
    let code : first ≡ first + 0 = omega arith in
    let is : c ≡ d = same_coded first (first + 0) x r code same in
    let rest : List Coded = of_number number (rows_with_codes (suc first) rs) in
    let whole : at_opcode op (keep_if (map_number (is_vex x.kind) x.map == number) c rest) ≡ c ∷ at_opcode op rest =
    at_opcode-keep_if op (map_number (is_vex x.kind) x.map == number) c rest ∙ ap (λ b. keep_if b c (at_opcode op rest)) met'
    in
    (0, ap (λ l. slice_get l 0) whole ∙ ap Some is)
  where
    same_coded : (a b : ℕ) (q r : Row) → a ≡ b → q ≡ r → coded_as a q ≡ coded_as b r
    same_coded a b q r e f = rw e (rw f refl)
found-in_cell number op first (x ∷ rs) (suc k) r at met =
    let t = found-in_cell number op (suc first) rs k r at met in
    let c : Coded = record { code = first; row = x } in
    let d : Coded = record { code = suc first + k; row = r } in
    let rest : List Coded = of_number number (rows_with_codes (suc first) rs) in
    let b : Bool = stands_in x number op in
    let whole : at_opcode op (keep_if (map_number (is_vex x.kind) x.map == number) c rest) ≡ keep_if b c (at_opcode op rest) =
    at_opcode-keep_if op (map_number (is_vex x.kind) x.map == number) c rest
    in
    let found = behind b c (at_opcode op rest) t.0 d t.1 in
    let code : suc first + k ≡ first + suc k = omega arith in
    (found.0, ap (λ l. slice_get l found.0) whole ∙ found.1 ∙ ap (λ n. Some (record { code = n; row = r })) code)
  where
    behind : (b : Bool) (c : Coded) (cs : List Coded) (i : ℕ) (d : Coded) → slice_get cs i ≡ Some d → (j : ℕ) × (slice_get (keep_if b c cs) j ≡ Some d)
    behind true c cs i d at = (suc i, at)
    behind false c cs i d at = (i, at)

-- each of the rows of a cell stands in it
stands-in_cell : (number op first : ℕ) (rows : List Row) (i : ℕ) (c : Coded)
    → slice_get (at_opcode op (of_number number (rows_with_codes first rows))) i ≡ Some c → stands_in c.row number op ≡ true
unfolding rows_with_codes of_number at_opcode
stands-in_cell number op first [] i c at = cc
stands-in_cell number op first (x ∷ rs) i c at =
    let d : Coded = record { code = first; row = x } in
    let rest : List Coded = of_number number (rows_with_codes (suc first) rs) in
    let b : Bool = stands_in x number op in
    let at' : slice_get (keep_if b d (at_opcode op rest)) i ≡ Some c =
    ap (λ l. slice_get l i) (sym (at_opcode-keep_if op (map_number (is_vex x.kind) x.map == number) d rest)) ∙ at
    in
    elim (bool_cases b) [
      | inl p ↦ first_or_later number op x d c (at_opcode op rest) (λ j h. stands-in_cell number op (suc first) rs j c h) refl p i (rw p at at')
      | inr p ↦ stands-in_cell number op (suc first) rs i c (rw p at at')
    ]
  where
    first_or_later : (number op : ℕ) (x : Row) (d c : Coded) (ds : List Coded)
        → ((j : ℕ) → slice_get ds j ≡ Some c → stands_in c.row number op ≡ true) → d.row ≡ x → stands_in x number op ≡ true
        → (i : ℕ) → slice_get (d ∷ ds) i ≡ Some c → stands_in c.row number op ≡ true
    first_or_later number op x d c ds later is met zero h =
        let same : d ≡ c = cc in
        ap (λ y. stands_in y.row number op) (sym same) ∙ ap (λ y. stands_in y number op) is ∙ met
    first_or_later number op x d c ds later is met (suc i) h = later i h

-- a row stands in the cell exactly where its index is in the run
pub run-of_span : (k : RowKind) (m : Map) (op : ℕ) (spans : List (List Span)) (rows : List Row) (s : Span)
    → spans_fit k spans rows ≡ true → op < 256 → cell_span spans (map_index m) op ≡ Some s
    → IsRunOf rows k m op s.first s.count
run-of_span k m op spans rows s h byte at code row there =
    let cs : List Coded = coded_cell rows k m op in
    let run : is_run s.first s.count cs ≡ true = span-is_run k m op spans rows s h byte at in
    let count : length cs ≡ s.count = length-is_run s.first s.count cs run in (
      λ met.
          (let t = found-in_cell (line_number k m) op 0 rows code row there met in
          let is : 0 + code ≡ s.first + t.0 = code-is_run s.first s.count cs run t.0 (record { code = 0 + code; row = row }) t.1 in
          let lt : t.0 < length cs = slice_get_within cs t.0 (record { code = 0 + code; row = row }) t.1 in
          (omega (arith, is), omega (arith, is, lt, count))),
      λ (low, high).
          (let i : ℕ = code - s.first in
          let lt : code - s.first < length cs = omega (arith, low, high, count) in
          let found = slice_get-known cs (code - s.first) lt in
          let c : Coded = found.0 in
          let is : c.code ≡ s.first + (code - s.first) = code-is_run s.first s.count cs run (code - s.first) c found.1 in
          let t = table-at_code (line_number k m) op 0 rows (code - s.first) c found.1 in
          let index : t.0 ≡ code = omega (arith, t.1, is, low) in
          let got : slice_get rows code ≡ Some c.row = rw index at t.2 in
          let same : c.row ≡ row = some-inj c.row row (sym got ∙ there) in
          ap (λ y. stands_in y (line_number k m) op) (sym same) ∙ stands-in_cell (line_number k m) op 0 rows (code - s.first) c found.1),
    )
  where
    some-inj : (q r : Row) → Some q ≡ Some r → q ≡ r
    some-inj q r e = cc

-- a span, read line by line
pub span-read : (spans : List (List Span)) (line op : ℕ) (l : List Span) (s : Span)
    → slice_get spans line ≡ Some l → slice_get l op ≡ Some s → cell_span spans line op ≡ Some s
unfolding cell_span
span-read spans line op l s p q = rw p q
