-- The rows that stand where a state says, by the cells of the table.
use Rattle.std.proofs.Common.{◌≡◌, ℕ, ◌+◌, ◌<◌, Bool, true, false, ◌&&◌, ◌==◌, nat_le, nat_lt, is_some, refl, ap, sym, ◌∙◌, arith, length}
use Rattle.std.proofs.lemmas.Bool.{eqb-true}
use Rattle.instruction_parts.specs.declared.row_types.Row.{Row}
use Rattle.instruction_parts.specs.declared.row_types.RowKind.{RowKind}
use Rattle.instruction_parts.specs.declared.row_types.RowKind.TheVariants.{Legacy, Vex as VexRow}
use Rattle.instruction_parts.specs.declared.row_types.Plus.{Plus}
use Rattle.instruction_parts.specs.declared.row_types.Plus.TheVariants.{No as NoPlus, Register as PlusRegister, Stack as PlusStack}
use Rattle.instruction_parts.specs.declared.spelling.PrefixState.{PrefixState}
use Rattle.instruction_parts.specs.Sizes.{is_vex_row}
use Rattle.row_fit.specs.Fits.{opcode_fits}
use Rattle.instruction_parts.specs.RowFields.Holds.{is_vex, map_number, opcode_holds, stands_in, rows_at}
use Rattle.instruction_parts.specs.Cells.{stands_in_cell, cell_of, IsRunOf}
use Rattle.opcode_rows.specs.Table.{table, cell}
use Rattle.opcode_rows.proofs.CellRuns.{run-cell}
use Rattle.decoder.specs.Cells.{IsInCell, CellIs, cell_count}

eqb_self : (n : ℕ) → (n == n) ≡ true
eqb_self n = grind arith

-- the kind of a row says whether it is a VEX row
pub kind_is_vex : (row : Row) → is_vex row.kind ≡ is_vex_row row
kind_is_vex row = by_kind row.kind
  where
    by_kind : (k : RowKind) → is_vex k ≡ (elim k [ Legacy ↦ false | VexRow ↦ true ])
    by_kind Legacy = refl
    by_kind VexRow = refl

-- the two tests of an opcode byte agree
opcode_stands : (row : Row) (op : ℕ) → opcode_fits row op ≡ true → opcode_holds row.plus row.opcode op ≡ true
unfolding opcode_fits
opcode_stands row op h = by_plus row.plus h
  where
    by_plus : (plus : Plus) → (elim plus [ PlusRegister ↦ nat_le row.opcode op && nat_lt op (row.opcode + 8) | _ ↦ op == row.opcode ]) ≡ true → opcode_holds plus row.opcode op ≡ true
    by_plus NoPlus e = ap (λ n. row.opcode == n) (eqb-true op row.opcode e) ∙ eqb_self row.opcode
    by_plus PlusRegister e = e
    by_plus PlusStack e = ap (λ n. row.opcode == n) (eqb-true op row.opcode e) ∙ eqb_self row.opcode

both_hold : (a b : Bool) → a ≡ true → b ≡ true → (a && b) ≡ true
both_hold a b ha hb = rw (ha, hb)

-- a row with the kind, the map and the opcode byte of a state stands at their cell
pub stands_by_state : (state : PrefixState) (row : Row) → IsInCell state row → stands_in row (map_number (is_some state.vex) state.map) state.opcode ≡ true
stands_by_state state row p =
    let kinds : is_vex row.kind ≡ is_some state.vex = kind_is_vex row ∙ p.kind in
    let same : map_number (is_vex row.kind) row.map ≡ map_number (is_some state.vex) state.map =
    ap (λ b. map_number b row.map) kinds ∙ ap (map_number (is_some state.vex)) (sym p.map) in
    let lines : (map_number (is_vex row.kind) row.map == map_number (is_some state.vex) state.map) ≡ true =
    ap (λ n. n == map_number (is_some state.vex) state.map) same ∙ eqb_self (map_number (is_some state.vex) state.map) in
    both_hold _ _ lines (opcode_stands row state.opcode p.opcode)

in_cell : (kind : RowKind) (state : PrefixState) (row : Row) → is_vex kind ≡ is_some state.vex → IsInCell state row → stands_in_cell kind state.map state.opcode row ≡ true
in_cell kind state row k p =
    ap (λ b. stands_in row (map_number b state.map) state.opcode) k ∙ stands_by_state state row p

-- the rows from the first of the cell on
pub cell_from : (kind : RowKind) (state : PrefixState) (first len : ℕ) → is_vex kind ≡ is_some state.vex → IsRunOf table kind state.map state.opcode first len → CellIs table state first (first + len)
cell_from kind state first len k run code row there p = (run code row there).0 (in_cell kind state row k p)

-- a cell without rows
pub cell_empty : (kind : RowKind) (state : PrefixState) → is_vex kind ≡ is_some state.vex → state.opcode < 256 → length (cell kind state.map state.opcode) ≡ 0 → CellIs table state 0 0
cell_empty kind state k small none code row there p =
    let run = run-cell kind state.map state.opcode small in
    let within = cell_from kind state run.0 _ k run.1 code row there p in
    absurd (omega (arith, within.0, within.1, none))

-- how many rows the cell has
pub count_of_cell : (kind : RowKind) (state : PrefixState) → is_vex kind ≡ is_some state.vex → length (cell kind state.map state.opcode) ≡ cell_count state
unfolding cell_count cell_of
count_of_cell kind state k = ap (λ b. length (rows_at (map_number b state.map) state.opcode table)) k
