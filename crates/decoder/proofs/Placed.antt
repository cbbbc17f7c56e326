-- Where the row of a fitting spelling stands: the kind, the map and the opcode byte that its state shows.
use Rattle.std.proofs.Common.{◌≡◌, ℕ, ◌<◌, true, ◌&&◌, not, List, ◌∷◌, length, Option, Some, None, refl, arith, is_some, length-append}
use Rattle.std.proofs.lemmas.Bool.{and_parts, not-true}
use Rattle.x86_values.specs.declared.Bits.{Bits}
use Rattle.instruction_parts.specs.declared.row_types.Row.{Row}
use Rattle.instruction_parts.specs.declared.spelling.Vex.{Vex}
use Rattle.instruction_parts.specs.declared.spelling.ModRm.{ModRm}
use Rattle.instruction_parts.specs.declared.spelling.Spelling.{Spelling}
use Rattle.instruction_parts.specs.Sizes.{is_vex_row}
use Rattle.instruction_parts.specs.Bytes.{front_bytes, tail_bytes, bytes_of, spelled_map, state_from, state_of}
use Rattle.row_fit.specs.Fits.{fits, vex_fits, opcode_is_kept, opcode_fits, opcode_and_modrm_fit, modrm_rule_fits, place_fits, same_map, is_vex_of_mode}
use Rattle.instruction_parts.specs.Front.{forbids_vex}
use Rattle.row_fit.proofs.FitLaws.{all_conditions}
use Rattle.row_fit.proofs.SameMap.{same_map-is}
use Rattle.decoder.specs.Cells.{IsInCell}

vex_placed : (bits : Bits) (row : Row) (prefixes : List ℕ) (vex : Option Vex) (opcode : ℕ) (m : Option ModRm) → vex_fits bits row prefixes vex opcode m ≡ true → (is_vex_row row ≡ is_some vex) × (spelled_map row.map vex ≡ row.map)
unfolding vex_fits
vex_placed bits row prefixes None opcode m h =
    (not-true (is_vex_row row) (and_parts (not (is_vex_row row)) (opcode_is_kept bits row.map opcode m) h).0, refl)
vex_placed bits row prefixes (Some v) opcode m h =
    let rest = not (forbids_vex bits prefixes) && is_vex_of_mode bits v in (
      (and_parts (is_vex_row row) (same_map v.map row.map && rest) h).0,
      same_map-is v.map row.map (and_parts (same_map v.map row.map) rest (and_parts (is_vex_row row) (same_map v.map row.map && rest) h).1).0,
    )

opcode_placed : (row : Row) (opcode : ℕ) (m : Option ModRm) → opcode_and_modrm_fit row opcode m ≡ true → opcode_fits row opcode ≡ true
unfolding opcode_and_modrm_fit
opcode_placed row opcode m h =
    (and_parts (opcode_fits row opcode) (modrm_rule_fits row.plus row.modrm m && place_fits row m) h).0

-- **the row of a fitting spelling stands where its state says**
pub placed : (bits : Bits) (row : Row) (s : Spelling) → fits bits row s ≡ true → IsInCell (state_of bits row s) row
unfolding state_of state_from
placed bits row s h =
    let f = all_conditions bits row s h in
    let v = vex_placed bits row s.prefixes.items s.vex s.opcode s.modrm f.vex in
    record { kind = v.0; map = v.1; opcode = opcode_placed row s.opcode s.modrm f.opcode }

-- the opcode byte of a spelling stands behind the bytes before it
pub used_below : (bits : Bits) (row : Row) (s : Spelling) → (state_of bits row s).used < length (bytes_of row s)
unfolding state_of state_from bytes_of
used_below bits row s =
    omega (arith, length-append (front_bytes row s) (s.opcode ∷ tail_bytes s))
