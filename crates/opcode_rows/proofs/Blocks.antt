-- A test of the rows of each opcode byte, sixteen bytes at a time: the rows near those bytes are found first, and then those of each.
use Rattle.std.proofs.Common.{◌≡◌, ℕ, zero, suc, ◌+◌, ◌*◌, ◌<◌, ◌≤◌, Bool, true, false, ◌&&◌, List, [], ◌∷◌, refl, ap, sym, ◌∙◌, arith, eqb-true, leb-true, ltb-true}
use Rattle.std.proofs.lemmas.Bool.{and_parts, le-leb, lt-ltb}
use Rattle.std.specs.Prelude.{◌/◌, ◌%◌, nat_le, nat_lt}
use Rattle.instruction_parts.specs.declared.row_types.Plus.{Plus}
use Rattle.instruction_parts.specs.declared.row_types.Plus.TheVariants as plus
use Rattle.instruction_parts.specs.declared.row_types.RowKind.{RowKind}
use Rattle.instruction_parts.specs.declared.row_types.Row.{Row}
use Rattle.instruction_parts.specs.RowFields.Holds.{keep_if, opcode_holds}
use Rattle.instruction_parts.specs.RowFields.Candidates.{Coded, rows_with_codes, of_number, at_opcode, below}
use Rattle.instruction_parts.proofs.RowFields.Cands.{at_opcode-keep_if, below-at}
use Rattle.instruction_parts.proofs.RowFields.Apart.{cell_apart, kind_apart, table_apart}
use Rattle.instruction_parts.specs.declared.row_lists.Span.{Span}
use Rattle.instruction_parts.specs.Cells.{cell_span}
use Rattle.instruction_parts.specs.Runs.{run_at, line_runs, first_number, spans_fit}

-- a row whose opcode byte is the first of eight may stand at one of sixteen
abbrev near : ℕ → ℕ → Bool
near base first = nat_le first (base + 15) && nat_lt base (first + 8)

-- the rows whose opcode bytes lie in the block of 16 that a byte is in
unfoldable pub near_rows : ℕ → List Coded → List Coded
near_rows base [] = []
near_rows base (c ∷ cs) = keep_if (near base c.row.opcode) c (near_rows base cs)

-- the test holds of the rows of each of sixteen opcode bytes
unfoldable pub each_of_16 : (ℕ → List Coded → Bool) → ℕ → List Coded → Bool
unfolding below at_opcode
each_of_16 test base cs = below 16 (λ low. test (base + low) (at_opcode (base + low) cs))

-- the test holds of the rows of each opcode byte
unfoldable pub each_of_256 : (ℕ → List Coded → Bool) → List Coded → Bool
unfolding below each_of_16 near_rows
each_of_256 test cs = below 16 (λ high. each_of_16 test (high * 16) (near_rows (high * 16) cs))

and-known : (a b : Bool) → (b ≡ true → a ≡ true) → (a && b) ≡ b
and-known true b h = refl
and-known false true h = h refl
and-known false false h = refl

near-first : (first op base : ℕ) → first ≤ op → op < first + 8 → base ≤ op → op < base + 16 → near base first ≡ true
near-first first op base a b low high =
    rw (le-leb first (base + 15) (omega (arith, a, high))) (lt-ltb base (first + 8) (omega (arith, b, low)))

held-first : (p : Plus) (first op : ℕ) → opcode_holds p first op ≡ true → (first ≤ op) × (op < first + 8)
held-first plus.No first op h = let e : first ≡ op = eqb-true first op h in (omega (arith, e), omega (arith, e))
held-first plus.Stack first op h = let e : first ≡ op = eqb-true first op h in (omega (arith, e), omega (arith, e))
held-first plus.Register first op h =
    (leb-true first op (and_parts (nat_le first op) (nat_lt op (first + 8)) h).0, ltb-true op (first + 8) (and_parts (nat_le first op) (nat_lt op (first + 8)) h).1)

at_opcode-near : (base op : ℕ) (cs : List Coded) → base ≤ op → op < base + 16 → at_opcode op (near_rows base cs) ≡ at_opcode op cs
unfolding near_rows at_opcode
at_opcode-near base op [] low high = refl
at_opcode-near base op (c ∷ cs) low high =
    at_opcode-keep_if op (near base c.row.opcode) c (near_rows base cs)
    ∙ ap (λ b. keep_if b c (at_opcode op (near_rows base cs)))
    (and-known (near base c.row.opcode) (opcode_holds c.row.plus c.row.opcode op)
    (λ h. (let t = held-first c.row.plus c.row.opcode op h in near-first c.row.opcode op base t.0 t.1 low high)))
    ∙ ap (keep_if (opcode_holds c.row.plus c.row.opcode op) c) (at_opcode-near base op cs low high)

-- the test of the rows of one opcode byte
pub each-at : (test : ℕ → List Coded → Bool) (cs : List Coded) (op : ℕ) → each_of_256 test cs ≡ true → op < 256 → test op (at_opcode op cs) ≡ true
unfolding each_of_256 each_of_16
each-at test cs op h lt =
    let whole : op / 16 * 16 + op % 16 ≡ op = omega arith in
    let sixteen : each_of_16 test (op / 16 * 16) (near_rows (op / 16 * 16) cs) ≡ true =
    below-at 16 (λ n. each_of_16 test (n * 16) (near_rows (n * 16) cs)) (op / 16) h (omega (arith, lt)) in
    let one : test (op / 16 * 16 + op % 16) (at_opcode (op / 16 * 16 + op % 16) (near_rows (op / 16 * 16) cs)) ≡ true =
    below-at 16 (λ n. test (op / 16 * 16 + n) (at_opcode (op / 16 * 16 + n) (near_rows (op / 16 * 16) cs))) (op % 16) sixteen (omega arith) in
    let here : test op (at_opcode op (near_rows (op / 16 * 16) cs)) ≡ true =
    ap (λ n. test n (at_opcode n (near_rows (op / 16 * 16) cs))) (sym whole) ∙ one in
    ap (test op) (sym (at_opcode-near (op / 16 * 16) op cs (omega (arith, whole)) (omega (arith, whole)))) ∙ here

-- a test that holds of each number below n is computed as true
pub below-all : (n : ℕ) (p : ℕ → Bool) → ((k : ℕ) → k < n → p k ≡ true) → below n p ≡ true
unfolding below
below-all zero p h = refl
below-all (suc n) p h = rw (h n (omega arith)) (below-all n p (λ k lt. h k (omega (arith, lt))))

-- ---- rows that are apart

-- the test that rows are apart, taken by blocks of 16 opcode bytes
unfoldable pub apart_by_16 : List Row → Bool
unfolding below each_of_256 of_number rows_with_codes
apart_by_16 rows =
    let cs : List Coded = rows_with_codes 0 rows in
    below 8 (λ number. each_of_256 cell_apart (of_number number cs))

-- rows that pass it are apart
pub apart-by_16 : (rows : List Row) → apart_by_16 rows ≡ true → table_apart rows ≡ true
unfolding apart_by_16 table_apart kind_apart
apart-by_16 rows h =
    below-all 8 (λ number. kind_apart (of_number number (rows_with_codes 0 rows)))
    (λ number lt. below-all 256 (λ op. cell_apart op (at_opcode op (of_number number (rows_with_codes 0 rows))))
    (λ op byte. each-at cell_apart (of_number number (rows_with_codes 0 rows)) op
    (below-at 8 (λ n. each_of_256 cell_apart (of_number n (rows_with_codes 0 rows))) number h lt) byte))

-- ---- spans that fit

-- the spans of a line say where the rows of an opcode byte lie
abbrev pub run_of : List (List Span) → ℕ → ℕ → List Coded → Bool
run_of spans line op cs = run_at (cell_span spans line op) cs

-- the test that spans fit the rows, taken by blocks of 16 opcode bytes
unfoldable pub fit_by_16 : RowKind → List (List Span) → List Row → Bool
unfolding below each_of_256 of_number rows_with_codes run_at cell_span
fit_by_16 k spans rows =
    let cs : List Coded = rows_with_codes 0 rows in
    below 4 (λ line. each_of_256 (run_of spans line) (of_number (first_number k + line) cs))

-- spans that pass it fit the rows
pub fit-by_16 : (k : RowKind) (spans : List (List Span)) (rows : List Row) → fit_by_16 k spans rows ≡ true → spans_fit k spans rows ≡ true
unfolding fit_by_16 spans_fit line_runs
fit-by_16 k spans rows h =
    below-all 4 (λ line. line_runs spans line (of_number (first_number k + line) (rows_with_codes 0 rows)))
    (λ line lt. below-all 256 (λ op. run_at (cell_span spans line op) (at_opcode op (of_number (first_number k + line) (rows_with_codes 0 rows))))
    (λ op byte. each-at (run_of spans line) (of_number (first_number k + line) (rows_with_codes 0 rows)) op
    (below-at 4 (λ n. each_of_256 (run_of spans n) (of_number (first_number k + n) (rows_with_codes 0 rows))) line h lt) byte))
