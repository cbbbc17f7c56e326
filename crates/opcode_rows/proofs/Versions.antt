-- The rows of version 1 are those that were, the rows behind them stand in the cells that version 2 fills, and no others do.
use Rattle.std.proofs.Common.{◌≡◌, ℕ, zero, suc, ◌+◌, ◌-◌, ◌<◌, ◌≤◌, Bool, true, false, not, ◌&&◌, ◌||◌, is_some, List, [], ◌∷◌, take, slice_get, refl, ap, sym, ◌∙◌, arith, inl, inr, eqb-true, leb-true, ltb-true, nat_le, nat_lt}
use Rattle.instruction_parts.specs.RowFields.Candidates.{below}
use Rattle.instruction_parts.proofs.RowFields.Cands.{below-at}
use Rattle.std.specs.Prelude.{Option, Some, None, ◌==◌, ◌↔◌, IsTrue, if◌then◌else◌}
use Rattle.std.proofs.lemmas.Bool.{cases_lt, and_parts}
use Rattle.instruction_parts.specs.declared.row_types.Row.{Row}
use Rattle.instruction_parts.specs.declared.row_types.RowKind.{RowKind}
use Rattle.instruction_parts.specs.declared.row_types.RowKind.TheVariants as kind
use Rattle.instruction_parts.specs.declared.row_types.Map.{Map}
use Rattle.instruction_parts.specs.declared.row_types.Map.TheVariants as map
use Rattle.instruction_parts.specs.declared.row_types.Plus.{Plus}
use Rattle.instruction_parts.specs.declared.row_types.Plus.TheVariants as plus
use Rattle.instruction_parts.specs.declared.spelling.Vex.{Vex}
use Rattle.instruction_parts.specs.declared.spelling.PrefixState.{PrefixState}
use Rattle.instruction_parts.specs.Bytes.{state_of}
use Rattle.instruction_parts.specs.RowFields.Holds.{is_vex, map_number, opcode_holds, stands_in}
use Rattle.instruction_parts.specs.Cells.{stands_in_cell}
use Rattle.version1_rows.specs.Table.{table as first_rows, names as first_names, legacy_rows as first_legacy, vex_rows as first_vex}
use Rattle.opcode_rows.specs.Parts.{integer_rows, integer_flat, x87_rows, x87_flat, sse_rows, sse_flat, vex_rows, vex_flat}
use Rattle.opcode_rows.specs.declared.generated_spots.TheConstants.{VERSION1_ROWS}
use Rattle.opcode_rows.specs.Table.{spots, table, names}
use Rattle.opcode_rows.specs.Versions.{version1, version1_names, is_within, is_added_cell, kind_behind, is_added_state}
use Rattle.opcode_rows.proofs.Woven.{woven, woven_table, table-woven, by_walk}
use Rattle.opcode_rows.proofs.Standing.{fitting-stands}
use Rattle.opcode_rows.proofs.Growth.{Grows}

-- ---- the rows of version 1

walked-kept : take VERSION1_ROWS woven_table ≡ first_rows
unfolding woven_table woven spots integer_rows integer_flat x87_rows x87_flat sse_rows sse_flat vex_rows vex_flat first_rows first_legacy first_vex
walked-kept = refl

-- the rows of version 1 are the first rows of the table
pub rows-kept : version1 ≡ first_rows
unfolding version1
rows-kept = ap (take VERSION1_ROWS) table-woven ∙ walked-kept

-- and so are their names
pub names-kept : version1_names ≡ first_names
unfolding version1_names names first_names
names-kept = refl

-- ---- cells by number

-- a cell that version 2 fills, by the number of its kind and map
unfoldable is_added_at : ℕ → ℕ → Bool
is_added_at number op =
    if number == 2 then is_within 0xDB 0xDF op
    else (if number == 3 then op == 0x44 || op == 0xDF
    else (if number == 6 then op == 0x13 || is_within 0x96 0x9F op || is_within 0xA6 0xAF op || is_within 0xB6 0xBF op || is_within 0xDB 0xDF op
    else (if number == 7 then op == 0x1D || op == 0x44 || op == 0xDF
    else false)))

added-at : (k : RowKind) (m : Map) (op : ℕ) → is_added_cell k m op ≡ is_added_at (map_number (is_vex k) m) op
unfolding is_added_cell is_added_at
added-at kind.Legacy map.One op = refl
added-at kind.Legacy map.M0f op = refl
added-at kind.Legacy map.M0f38 op = refl
added-at kind.Legacy map.M0f3a op = refl
added-at kind.Vex map.One op = refl
added-at kind.Vex map.M0f op = refl
added-at kind.Vex map.M0f38 op = refl
added-at kind.Vex map.M0f3a op = refl

-- ---- the test

abbrev same : Bool → Bool → Bool
same true b = b
same false b = not b

-- each opcode byte of a row is one of an added cell, or none is
unfoldable stands_only : Bool → Plus → ℕ → ℕ → Bool
unfolding below is_added_at
stands_only b plus.Register number op = below 8 (λ i. same b (is_added_at number (op + i)))
stands_only b _ number op = same b (is_added_at number op)

unfoldable only : Bool → Row → Bool
unfolding stands_only
only b row = stands_only b row.plus (map_number (is_vex row.kind) row.map) row.opcode

-- the first n rows stand in no added cell, and all behind them do
unfoldable parted : ℕ → List Row → Bool
unfolding only
parted n [] = true
parted zero (r ∷ rs) = only true r && parted zero rs
parted (suc n) (r ∷ rs) = only false r && parted n rs

walk-parted : parted VERSION1_ROWS woven_table ≡ true
unfolding parted only stands_only below is_added_at woven_table woven spots integer_rows integer_flat x87_rows x87_flat sse_rows sse_flat vex_rows vex_flat
walk-parted = refl

is_parted : parted VERSION1_ROWS table ≡ true
is_parted = by_walk (parted VERSION1_ROWS) walk-parted

-- what it says of the row of a code
record Parted (n code : ℕ) (row : Row) : Type 0 where
  before : code < n → only false row ≡ true
  behind : n ≤ code → only true row ≡ true

parted-at : (n : ℕ) (rows : List Row) (code : ℕ) (row : Row) → parted n rows ≡ true → slice_get rows code ≡ Some row → Parted n code row
unfolding parted
parted-at n [] code row h at = cc
parted-at zero (r ∷ rs) zero row h at =
    let is : r ≡ row = cc in
    record {
      before = λ lt. absurd (omega (arith, lt));
      behind = λ le. ap (only true) (sym is) ∙ (and_parts (only true r) (parted zero rs) h).0;
    }
parted-at zero (r ∷ rs) (suc code) row h at =
    let t = parted-at zero rs code row (and_parts (only true r) (parted zero rs) h).1 at in
    record {
      before = λ lt. absurd (omega (arith, lt));
      behind = λ le. t.behind (omega arith);
    }
parted-at (suc n) (r ∷ rs) zero row h at =
    let is : r ≡ row = cc in
    record {
      before = λ lt. ap (only false) (sym is) ∙ (and_parts (only false r) (parted n rs) h).0;
      behind = λ le. absurd (omega (arith, le));
    }
parted-at (suc n) (r ∷ rs) (suc code) row h at =
    let t = parted-at n rs code row (and_parts (only false r) (parted n rs) h).1 at in
    record {
      before = λ lt. t.before (omega (arith, lt));
      behind = λ le. t.behind (omega (arith, le));
    }

-- ---- the cells of a row

same-true : (a b : Bool) → same a b ≡ true → b ≡ a
same-true true b h = h
same-true false true h = cc
same-true false false h = refl

held-only : (b : Bool) (p : Plus) (number first op : ℕ) → stands_only b p number first ≡ true → opcode_holds p first op ≡ true → is_added_at number op ≡ b
unfolding stands_only
held-only b plus.No number first op h held =
    same-true b (is_added_at number op) (ap (λ o. same b (is_added_at number o)) (sym (eqb-true first op held)) ∙ h)
held-only b plus.Stack number first op h held =
    same-true b (is_added_at number op) (ap (λ o. same b (is_added_at number o)) (sym (eqb-true first op held)) ∙ h)
held-only b plus.Register number first op h held =
    let low : first ≤ op = leb-true first op (and_parts (nat_le first op) (nat_lt op (first + 8)) held).0 in
    let high : op < first + 8 = ltb-true op (first + 8) (and_parts (nat_le first op) (nat_lt op (first + 8)) held).1 in
    let here : same b (is_added_at number (first + (op - first))) ≡ true =
    below-at 8 (λ i. same b (is_added_at number (first + i))) (op - first) h (omega (arith, low, high)) in
    let is : first + (op - first) ≡ op = omega (arith, low) in
    same-true b (is_added_at number op) (ap (λ o. same b (is_added_at number o)) (sym is) ∙ here)

cell-only : (b : Bool) (row : Row) (number op : ℕ) → only b row ≡ true → stands_in row number op ≡ true → is_added_at number op ≡ b
unfolding only
cell-only b row number op h at =
    let own : ℕ = map_number (is_vex row.kind) row.map in
    let is : map_number (is_vex row.kind) row.map ≡ number =
    eqb-true (map_number (is_vex row.kind) row.map) number (and_parts (own == number) (opcode_holds row.plus row.opcode op) at).0 in
    ap (λ n. is_added_at n op) (sym is)
    ∙ held-only b row.plus (map_number (is_vex row.kind) row.map) row.opcode op h (and_parts (own == number) (opcode_holds row.plus row.opcode op) at).1

added-behind : (code : ℕ) (row : Row) (number op : ℕ) → slice_get table code ≡ Some row → stands_in row number op ≡ true → VERSION1_ROWS ≤ code
    → is_added_at number op ≡ true
added-behind code row number op at here le =
    cell-only true row number op ((parted-at VERSION1_ROWS table code row is_parted at).behind le) here

added-before : (code : ℕ) (row : Row) (number op : ℕ) → slice_get table code ≡ Some row → stands_in row number op ≡ true → code < VERSION1_ROWS
    → is_added_at number op ≡ false
added-before code row number op at here lt =
    cell-only false row number op ((parted-at VERSION1_ROWS table code row is_parted at).before lt) here

-- **a row of a cell is one of version 2 exactly where version 2 fills the cell**
pub cells-parted : (code : ℕ) (row : Row) (k : RowKind) (m : Map) (op : ℕ) → slice_get table code ≡ Some row → IsTrue (stands_in_cell k m op row)
    → IsTrue (is_added_cell k m op) ↔ (VERSION1_ROWS ≤ code)
cells-parted code row k m op at here = (
  λ added.
      (elim (cases_lt code VERSION1_ROWS) [
        | inl lt ↦ absurd (not_both (is_added_cell k m op) added (added-at k m op ∙ added-before code row (map_number (is_vex k) m) op at here lt))
        | inr le ↦ le
      ]),
  λ le. added-at k m op ∙ added-behind code row (map_number (is_vex k) m) op at here le,
)
  where
    not_both : (b : Bool) → b ≡ true → b ≡ false → ⊥
    not_both b p q = cc

-- ---- readings

taken-get : (n : ℕ) (rows : List Row) (code : ℕ) (row : Row) → slice_get (take n rows) code ≡ Some row → slice_get rows code ≡ Some row
taken-get zero rows code row at = cc
taken-get (suc n) [] code row at = cc
taken-get (suc n) (r ∷ rs) zero row at = at
taken-get (suc n) (r ∷ rs) (suc code) row at = taken-get n rs code row at

taken-lt : (n : ℕ) (rows : List Row) (code : ℕ) (row : Row) → slice_get (take n rows) code ≡ Some row → code < n
taken-lt zero rows code row at = cc
taken-lt (suc n) [] code row at = cc
taken-lt (suc n) (r ∷ rs) zero row at = omega arith
taken-lt (suc n) (r ∷ rs) (suc code) row at = let lt = taken-lt n rs code row at in omega arith

-- a row below n is one of the first n rows
pub get-taken : (n : ℕ) (rows : List Row) (code : ℕ) (row : Row) → slice_get rows code ≡ Some row → code < n → slice_get (take n rows) code ≡ Some row
get-taken zero rows code row at lt = absurd (omega arith)
get-taken (suc n) [] code row at lt = cc
get-taken (suc n) (r ∷ rs) zero row at lt = at
get-taken (suc n) (r ∷ rs) (suc code) row at lt = get-taken n rs code row at (omega arith)

-- the kind behind a VEX by its number
behind-number : (v : Option Vex) (m : Map) → map_number (is_vex (kind_behind v)) m ≡ map_number (is_some v) m
behind-number None m = refl
behind-number (Some v) m = refl

state-at : (state : PrefixState) → is_added_state state ≡ is_added_at (map_number (is_some state.vex) state.map) state.opcode
unfolding is_added_state
state-at state =
    added-at (kind_behind state.vex) state.map state.opcode ∙ ap (λ n. is_added_at n state.opcode) (behind-number state.vex state.map)

-- the table grows from version 1 by rows that need an added state
pub table-grows : Grows version1 table is_added_state
unfolding version1
table-grows =
    record {
      kept = λ code row at. taken-get VERSION1_ROWS table code row at;
      elsewhere = λ bits code row s at h.
          state-at (state_of bits row s)
          ∙ added-before code row (map_number (is_some (state_of bits row s).vex) (state_of bits row s).map) (state_of bits row s).opcode
          (taken-get VERSION1_ROWS table code row at) (fitting-stands bits row s h) (taken-lt VERSION1_ROWS table code row at);
      others = λ bits code row s at h.
          elim (cases_lt code VERSION1_ROWS) [
            | inl lt ↦ inl (get-taken VERSION1_ROWS table code row at lt)
            | inr le ↦ inr (state-at (state_of bits row s)
                ∙ added-behind code row (map_number (is_some (state_of bits row s).vex) (state_of bits row s).map) (state_of bits row s).opcode at
                (fitting-stands bits row s h) le)
          ];
    }
