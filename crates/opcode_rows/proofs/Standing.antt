-- Where a spelling fits a row, the row stands in the cell that its VEX, map and opcode byte name.
use Rattle.std.proofs.Common.{◌≡◌, ℕ, true, false, not, ◌&&◌, Option, Some, None, is_some, List, refl, ap, sym, ◌∙◌, eq-eqb, ◌+◌, nat_le, nat_lt}
use Rattle.std.specs.Prelude.{◌==◌}
use Rattle.std.proofs.lemmas.Bool.{and_from, and_parts, eqb-true, not-true}
use Rattle.x86_values.specs.declared.Bits.{Bits}
use Rattle.instruction_parts.specs.declared.row_types.Row.{Row}
use Rattle.instruction_parts.specs.declared.row_types.RowKind.{RowKind}
use Rattle.instruction_parts.specs.declared.row_types.RowKind.TheVariants as kind
use Rattle.instruction_parts.specs.declared.row_types.Plus.{Plus}
use Rattle.instruction_parts.specs.declared.row_types.Plus.TheVariants as plus
use Rattle.instruction_parts.specs.declared.spelling.Vex.{Vex}
use Rattle.instruction_parts.specs.declared.spelling.ModRm.{ModRm}
use Rattle.instruction_parts.specs.declared.spelling.Spelling.{Spelling}
use Rattle.instruction_parts.specs.Sizes.{is_vex_row}
use Rattle.instruction_parts.specs.Bytes.{spelled_map, state_of, state_from}
use Rattle.instruction_parts.specs.Front.{forbids_vex}
use Rattle.row_fit.specs.Fits.{fits, vex_fits, is_vex_of_mode, opcode_is_kept, same_map, opcode_fits, opcode_and_modrm_fit, modrm_rule_fits, place_fits}
use Rattle.row_fit.proofs.SameMap.{same_map-is}
use Rattle.row_fit.proofs.FitLaws.{all_conditions}
use Rattle.instruction_parts.specs.RowFields.Holds.{stands_in, is_vex, map_number, opcode_holds}

-- whether a kind is VEX, as a row says it
pub kind-vex : (k : RowKind) → is_vex k ≡ (elim k [ kind.Legacy ↦ false | kind.Vex ↦ true ])
kind-vex kind.Legacy = refl
kind-vex kind.Vex = refl

-- an opcode byte that a row allows is one of its opcode bytes
pub opcode-held : (p : Plus) (first o : ℕ)
    → (elim p [ plus.Register ↦ nat_le first o && nat_lt o (first + 8) | _ ↦ o == first ]) ≡ true → opcode_holds p first o ≡ true
opcode-held plus.Register first o h = h
opcode-held plus.No first o h = eq-eqb first o (sym (eqb-true o first h))
opcode-held plus.Stack first o h = eq-eqb first o (sym (eqb-true o first h))

-- the parts of a fitting start: a VEX stands exactly on VEX rows
abbrev pub VexSays : Row → Option Vex → Type 0
VexSays row None = is_vex_row row ≡ false
VexSays row (Some v) = (is_vex_row row ≡ true) × (v.map ≡ row.map)

-- a VEX that fits a row has the fields that the row asks for
pub vex-says : (bits : Bits) (row : Row) (ps : List ℕ) (vex : Option Vex) (o : ℕ) (m : Option ModRm) → vex_fits bits row ps vex o m ≡ true → VexSays row vex
unfolding vex_fits
vex-says bits row ps None o m h = not-true (is_vex_row row) (and_parts (not (is_vex_row row)) (opcode_is_kept bits row.map o m) h).0
vex-says bits row ps (Some v) o m h =
    let rest = (and_parts (is_vex_row row) (same_map v.map row.map && (not (forbids_vex bits ps) && is_vex_of_mode bits v)) h).1 in (
      (and_parts (is_vex_row row) (same_map v.map row.map && (not (forbids_vex bits ps) && is_vex_of_mode bits v)) h).0,
      same_map-is v.map row.map (and_parts (same_map v.map row.map) (not (forbids_vex bits ps) && is_vex_of_mode bits v) rest).0,
    )

line-is : (row : Row) (vex : Option Vex) → VexSays row vex → map_number (is_vex row.kind) row.map ≡ map_number (is_some vex) (spelled_map row.map vex)
line-is row None h = ap (λ b. map_number b row.map) (kind-vex row.kind ∙ h)
line-is row (Some v) h = ap (λ b. map_number b row.map) (kind-vex row.kind ∙ h.0) ∙ ap (λ m. map_number true m) (sym h.1)

-- the row stands in the cell of that opcode byte
pub stands : (row : Row) (vex : Option Vex) (o : ℕ) → VexSays row vex → opcode_fits row o ≡ true
    → stands_in row (map_number (is_some vex) (spelled_map row.map vex)) o ≡ true
unfolding opcode_fits
stands row vex o says h =
    and_from (map_number (is_vex row.kind) row.map == map_number (is_some vex) (spelled_map row.map vex)) (opcode_holds row.plus row.opcode o)
    (eq-eqb (map_number (is_vex row.kind) row.map) (map_number (is_some vex) (spelled_map row.map vex)) (line-is row vex says))
    (opcode-held row.plus row.opcode o h)

-- a row that allows an opcode byte with a ModRM allows the byte
pub opcode-parts : (row : Row) (o : ℕ) (m : Option ModRm) → opcode_and_modrm_fit row o m ≡ true
    → (opcode_fits row o && (modrm_rule_fits row.plus row.modrm m && place_fits row m)) ≡ true
unfolding opcode_and_modrm_fit
opcode-parts row o m h = h

-- **a row that a spelling fits stands in the cell that the spelling's state names**
pub fitting-stands : (bits : Bits) (row : Row) (s : Spelling) → fits bits row s ≡ true
    → stands_in row (map_number (is_some (state_of bits row s).vex) (state_of bits row s).map) (state_of bits row s).opcode ≡ true
unfolding state_of state_from
fitting-stands bits row s h =
    let f = all_conditions bits row s h in
    stands row s.vex s.opcode (vex-says bits row s.prefixes.items s.vex s.opcode s.modrm f.vex)
    (and_parts (opcode_fits row s.opcode) _ (opcode-parts row s.opcode s.modrm f.opcode)).0
