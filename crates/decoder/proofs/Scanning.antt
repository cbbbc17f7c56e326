-- What the rows of a cell say of some bytes, one after another, and the reading that follows when all were looked at.
use Rattle.std.proofs.Common.{◌≡◌, ◌⊎◌, inl, inr, ℕ, ◌+◌, ◌<◌, ◌≤◌, Bool, true, false, List, ◌++◌, length, Some, IsTrue, slice_get, refl, ap, sym, ◌∙◌, subst, arith, length-append}
use Rattle.std.proofs.lemmas.Bool.{cases_lt}
use Rattle.x86_values.specs.declared.Bits.{Bits}
use Rattle.x86_values.specs.declared.Code.{Code}
use Rattle.x86_values.specs.declared.Instr.{Instr}
use Rattle.x86_values.specs.declared.Decoded.{Decoded}
use Rattle.instruction_parts.specs.declared.row_types.Row.{Row}
use Rattle.instruction_parts.specs.declared.spelling.Spelling.{Spelling}
use Rattle.instruction_parts.specs.declared.spelling.PrefixState.{PrefixState}
use Rattle.instruction_parts.specs.Bytes.{bytes_of, state_of}
use Rattle.instruction_parts.specs.Front.{Known, long_front, front_of}
use Rattle.row_fit.specs.Fits.{fits}
use Rattle.row_fit.proofs.OneSpelling.{one_spelling}
use Rattle.row_fit.proofs.FrontGrows.{front-extends}
use Rattle.row_relation.specs.Spells.{SpellsNothing, IsTooShort, IsInvalid}
use Rattle.row_relation.specs.RowReading.{RowReads, RowReadsNothing, RowCanGoOn}
use Rattle.modrm_sib.specs.Answer.{ReadsNothingShort}
use Rattle.decoder.specs.Cells.{IsInCell, CellIs, RowIsLate, RowStops, Scanned}
use Rattle.decoder.proofs.Placed.{placed}
use Rattle.decoder.proofs.Fronts.{known_is}
use Rattle.decoder.proofs.ReadingLaws.{reads, IsAtFront, at_front, IsBegun, begun, begins, is_closed}

-- ---- one row

-- a row that reads nothing is late
pub late_by_nothing : (bits : Bits) (row : Row) (bytes : List ℕ) → RowReadsNothing bits row bytes → RowIsLate bits row bytes
late_by_nothing bits row bytes h s rest fit e = absurd (h s rest fit e)

-- a row has one spelling at the front of the bytes
pub late_by_length : (bits : Bits) (ip : ℕ) (code : Code) (row : Row) (bytes : List ℕ) (d : Decoded) → RowReads bits ip code row bytes d → 15 < d.len → RowIsLate bits row bytes
late_by_length bits ip code row bytes d r long s rest fit e =
    let one = one_spelling bits row s r.spelling rest r.rest fit r.fitting (sym e ∙ r.bytes_are) in
    omega (arith, ap (λ (t : Spelling). length (bytes_of row t)) one.0, r.length_is)

-- where a row reads nothing of at most 15 bytes, its spellings are longer
pub late_by_either : (bits : Bits) (ip : ℕ) (code : Code) (row : Row) (bytes : List ℕ) → ReadsNothingShort bits ip code row bytes → RowIsLate bits row bytes
late_by_either bits ip code row bytes h = elim h [
  | inl nothing ↦ late_by_nothing bits row bytes nothing
  | inr long ↦ late_by_length bits ip code row bytes long.0 long.1.0 long.1.1
]

stops_by_length : (bits : Bits) (ip : ℕ) (code : Code) (row : Row) (bytes : List ℕ) (d : Decoded) → RowReads bits ip code row bytes d → 15 < d.len → RowStops bits row bytes
stops_by_length bits ip code row bytes d r long short goes =
    omega (arith, ap length r.bytes_are, length-append (bytes_of row r.spelling) r.rest, r.length_is)

-- ---- rows one after another

-- at first no row was looked at
pub scanned_none : (table : List Row) (bits : Bits) (bytes : List ℕ) (first : ℕ) → Scanned table bits bytes first first false
scanned_none table bits bytes first = record {
  late = λ k row from upto. absurd (omega arith);
  stops = λ e k row from upto. absurd (omega arith);
  goes = λ e. cc;
}

same_row : (table : List Row) (k next : ℕ) (row other : Row) → k ≡ next → slice_get table next ≡ Some row → slice_get table k ≡ Some other → row ≡ other
same_row table k next row other e there found =
    let found2 : slice_get table next ≡ Some other = subst (λ n. slice_get table n ≡ Some other) e found in cc

-- what holds of each row up to next, and of the row there, holds up to the one behind it
each_more : (P : Row → Type 0) (table : List Row) (first next : ℕ) (row : Row) → slice_get table next ≡ Some row → P row → ((k : ℕ) (r : Row) → first ≤ k → k < next → slice_get table k ≡ Some r → P r) → (k : ℕ) (r : Row) → first ≤ k → k < next + 1 → slice_get table k ≡ Some r → P r
each_more P table first next row there here before k r from upto found = elim (cases_lt k next) [
  | inl below ↦ before k r from below found
  | inr above ↦ subst P (same_row table k next row r (omega arith) there found) here
]

-- a row that cannot go on keeps the flag
pub scanned_stop : (table : List Row) (bits : Bits) (bytes : List ℕ) (first next : ℕ) (goes_on : Bool) (row : Row) → slice_get table next ≡ Some row → RowReadsNothing bits row bytes → (RowCanGoOn bits row bytes → ⊥) → Scanned table bits bytes first next goes_on → Scanned table bits bytes first (next + 1) goes_on
scanned_stop table bits bytes first next goes_on row there nothing ends h = record {
  late = each_more (λ r. RowIsLate bits r bytes) table first next row there (late_by_nothing bits row bytes nothing) h.late;
  stops = λ e. each_more (λ r. RowStops bits r bytes) table first next row there (λ short. ends) (h.stops e);
  goes = h.goes;
}

-- a row that reads more than 15 bytes keeps it too
scanned_long : (table : List Row) (bits : Bits) (ip : ℕ) (bytes : List ℕ) (first next : ℕ) (goes_on : Bool) (code : Code) (row : Row) (d : Decoded) → slice_get table next ≡ Some row → RowReads bits ip code row bytes d → 15 < d.len → Scanned table bits bytes first next goes_on → Scanned table bits bytes first (next + 1) goes_on
scanned_long table bits ip bytes first next goes_on code row d there r long h = record {
  late = each_more (λ r. RowIsLate bits r bytes) table first next row there (late_by_length bits ip code row bytes d r long) h.late;
  stops = λ e. each_more (λ r. RowStops bits r bytes) table first next row there (stops_by_length bits ip code row bytes d r long) (h.stops e);
  goes = h.goes;
}

-- where the bytes spell nothing, what a row reads has more than 15
pub scanned_read : (table : List Row) (bits : Bits) (ip : ℕ) (bytes : List ℕ) (first : ℕ) (goes_on : Bool) (code : Code) (row : Row) (d : Decoded) → slice_get table code.0 ≡ Some row → RowReads bits ip code row bytes d → SpellsNothing table bits ip bytes → Scanned table bits bytes first code.0 goes_on → Scanned table bits bytes first (code.0 + 1) goes_on
scanned_read table bits ip bytes first goes_on code row d there r nothing h = elim (cases_lt 15 d.len) [
  | inl long ↦ scanned_long table bits ip bytes first code.0 goes_on code row d there r long h
  | inr short ↦ absurd (nothing d.instr d.len (reads table bits ip code row bytes d there r short))
]

-- a row that can go on sets it
pub scanned_goes : (table : List Row) (bits : Bits) (bytes : List ℕ) (first : ℕ) (goes_on : Bool) (code : Code) (row : Row) → slice_get table code.0 ≡ Some row → RowReadsNothing bits row bytes → RowCanGoOn bits row bytes → Scanned table bits bytes first code.0 goes_on → Scanned table bits bytes first (code.0 + 1) true
scanned_goes table bits bytes first goes_on code row there nothing can h = record {
  late = each_more (λ r. RowIsLate bits r bytes) table first code.0 row there (late_by_nothing bits row bytes nothing) h.late;
  stops = λ e. cc;
  goes = λ e. (code, (row, (there, can)));
}

-- ---- the whole cell

placed_by : (bits : Bits) (bytes : List ℕ) (state : PrefixState) (row : Row) (s : Spelling) → long_front bits bytes ≡ Known state → long_front bits bytes ≡ Known (state_of bits row s) → IsTrue (fits bits row s) → IsInCell state row
placed_by bits bytes state row s h front fit =
    let same : state_of bits row s ≡ state = cc in
    subst (λ (f : PrefixState). IsInCell f row) same (placed bits row s fit)

cell_spells_nothing : (table : List Row) (bits : Bits) (ip : ℕ) (bytes : List ℕ) (state : PrefixState) (first end : ℕ) (goes_on : Bool) (i : Instr) (n : ℕ) → long_front bits bytes ≡ Known state → CellIs table state first end → Scanned table bits bytes first end goes_on → IsAtFront table bits ip bytes i n → ⊥
cell_spells_nothing table bits ip bytes state first end goes_on i n h cell scanned a =
    let within = cell i.code.0 a.row a.there (placed_by bits bytes state a.row a.spelling h a.front a.fitting) in
    let late = scanned.late i.code.0 a.row within.0 within.1 a.there a.spelling a.rest a.fitting a.bytes_are in
    omega (arith, late, a.length_is, a.short)

cell_begins : (table : List Row) (bits : Bits) (bytes : List ℕ) (state : PrefixState) (first end : ℕ) → long_front bits bytes ≡ Known state → CellIs table state first end → Scanned table bits bytes first end false → length bytes < 15 → IsBegun table bits bytes → ⊥
cell_begins table bits bytes state first end h cell scanned short b =
    let more = b.goes_on.more in
    let within = cell b.code.0 b.row b.there (placed_by bits (bytes ++ more) state b.row b.goes_on.spelling (front-extends bits bytes more state h) b.front b.goes_on.fitting) in
    scanned.stops refl b.code.0 b.row within.0 within.1 b.there short b.goes_on

-- **where some row of the cell can go on, fewer than 15 bytes are too short**
pub scanned_too_short : (table : List Row) (bits : Bits) (ip : ℕ) (bytes : List ℕ) (state : PrefixState) (first end : ℕ) → front_of bits bytes ≡ Known state → CellIs table state first end → Scanned table bits bytes first end true → length bytes < 15 → IsTooShort table bits ip bytes
unfolding front_of
scanned_too_short table bits ip bytes state first end h cell scanned short =
    let known = known_is (length bytes) (long_front bits bytes) state h in
    let g = scanned.goes refl in
    record {
      spells_nothing = λ i n r. cell_spells_nothing table bits ip bytes state first end true i n known.0 cell scanned (at_front table bits ip bytes i n r);
      is_short = short;
      can_go_on = inr (begins table bits ip g.0 g.1.0 bytes g.1.1.0 g.1.1.1);
    }

-- **where none can, or 15 bytes are there, the bytes are invalid**
pub scanned_invalid : (table : List Row) (bits : Bits) (ip : ℕ) (bytes : List ℕ) (state : PrefixState) (first end : ℕ) (goes_on : Bool) → front_of bits bytes ≡ Known state → CellIs table state first end → Scanned table bits bytes first end goes_on → (goes_on ≡ false) ⊎ (15 ≤ length bytes) → IsInvalid table bits ip bytes
unfolding front_of
scanned_invalid table bits ip bytes state first end goes_on h cell scanned why =
    let known = known_is (length bytes) (long_front bits bytes) state h in
    record {
      spells_nothing = λ i n r. cell_spells_nothing table bits ip bytes state first end goes_on i n known.0 cell scanned (at_front table bits ip bytes i n r);
      ends_here = λ short goes. elim goes [
        | inl open_ ↦ is_closed _ (Known state) h refl open_
        | inr b ↦ elim why [
          | inl flag ↦ cell_begins table bits bytes state first end known.0 cell (subst (λ (g : Bool). Scanned table bits bytes first end g) flag scanned) short (begun table bits ip bytes b)
          | inr long ↦ absurd (omega arith)
        ]
      ];
    }
