-- What the state of a fitting spelling is: a REX and a VEX only where they may stand, and the class, size and W that the row asks for.
use Rattle.std.proofs.Common.{◌≡◌, ℕ, true, false, ◌&&◌, not, nat_lt, List, Option, Some, None, is_some, refl, ◌∙◌, subst}
use Rattle.std.proofs.lemmas.Bool.{or_parts, and_parts, not-true}
use Rattle.x86_values.specs.declared.Bits.{Bits}
use Rattle.x86_values.specs.declared.Bits.TheVariants.{B16, B32, B64}
use Rattle.instruction_parts.specs.declared.row_types.Row.{Row}
use Rattle.instruction_parts.specs.declared.row_types.Map.{Map}
use Rattle.instruction_parts.specs.declared.row_types.Map.TheVariants.{One, M0f, M0f38, M0f3a}
use Rattle.instruction_parts.specs.declared.spelling.Vex.{Vex}
use Rattle.instruction_parts.specs.declared.spelling.ModRm.{ModRm}
use Rattle.instruction_parts.specs.declared.spelling.Spelling.{Spelling}
use Rattle.instruction_parts.specs.declared.spelling.PrefixState.{PrefixState}
use Rattle.instruction_parts.specs.Counting.{is_64, counting_rex}
use Rattle.instruction_parts.specs.Sizes.{is_vex_row, state_size, bit_w}
use Rattle.instruction_parts.specs.Bytes.{state_of, state_from}
use Rattle.instruction_parts.specs.Front.{forbids_vex}
use Rattle.row_fit.proofs.SameMap.{same_map-is}
use Rattle.row_fit.specs.Fits.{Fits, vex_fits, same_map, is_vex_of_mode, class_fits, legacy_class_fits, vex_class_fits, sizes_fit, size_fits, w_fits, l_fits, fields_in_range, vex_in_range, modrm_in_range, sib_in_range, are_bytes}
use Rattle.row_relation.proofs.NeedAsks.{differ}

-- the VEX of a fitting spelling
pub record VexIs (bits : Bits) (row : Row) (st : PrefixState) : Type 0 where
  pub v : Vex
  pub stands : st.vex ≡ Some v
  pub map_is : v.map ≡ row.map
  pub mode : is_vex_of_mode bits v ≡ true
  pub range : vex_in_range (Some v) ≡ true
  pub class : vex_class_fits row.class v ≡ true
  pub w : w_fits row v ≡ true

-- what the state of a fitting spelling is
pub record StateIs (bits : Bits) (row : Row) (st : PrefixState) : Type 0 where
  pub legacy : is_vex_row row ≡ false → st.vex ≡ None
  pub vex : is_vex_row row ≡ true → VexIs bits row st
  pub vex_rex : is_vex_row row ≡ true → st.rex ≡ None
  pub rex_mode : is_64 bits ≡ false → st.rex ≡ None
  pub class : is_vex_row row ≡ false → legacy_class_fits row.class st ≡ true
  pub size : size_fits bits row.size (state_size bits row st) (bit_w bits st) ≡ true

no_vex : (bits : Bits) (row : Row) (ps : List ℕ) (vex : Option Vex) (opcode : ℕ) (m : Option ModRm) → vex_fits bits row ps vex opcode m ≡ true → is_vex_row row ≡ false → vex ≡ None
unfolding vex_fits
no_vex bits row ps None opcode m h l = refl
no_vex bits row ps (Some v) opcode m h l = let e = (and_parts (is_vex_row row) _ h).0 in cc

none_from : {T : Type 0} → (o : Option T) → is_some o ≡ false → o ≡ None
none_from None h = refl
none_from (Some x) h = cc

no_rex : (bits : Bits) (row : Row) (ps : List ℕ) (vex : Option Vex) (opcode : ℕ) (m : Option ModRm) → vex_fits bits row ps vex opcode m ≡ true → is_vex_row row ≡ true → counting_rex bits ps ≡ None
unfolding vex_fits forbids_vex
no_rex bits row ps None opcode m h l = let e = not-true (is_vex_row row) (and_parts (not (is_vex_row row)) _ h).0 in cc
no_rex bits row ps (Some v) opcode m h l =
    let rest = (and_parts (same_map v.map row.map) (not (forbids_vex bits ps) && is_vex_of_mode bits v) (and_parts (is_vex_row row) _ h).1).1 in
    let free = not-true _ (and_parts (not (forbids_vex bits ps)) (is_vex_of_mode bits v) rest).0 in
    none_from (counting_rex bits ps) (or_parts _ (is_some (counting_rex bits ps)) free).1

-- a VEX with what its place says of it
record VexAt (bits : Bits) (row : Row) (vex : Option Vex) : Type 0 where
  pub v : Vex
  pub stands : vex ≡ Some v
  pub map_is : v.map ≡ row.map
  pub mode : is_vex_of_mode bits v ≡ true

vex_at : (bits : Bits) (row : Row) (ps : List ℕ) (vex : Option Vex) (opcode : ℕ) (m : Option ModRm) → vex_fits bits row ps vex opcode m ≡ true → is_vex_row row ≡ true → VexAt bits row vex
unfolding vex_fits
vex_at bits row ps None opcode m h l = let e = not-true (is_vex_row row) (and_parts (not (is_vex_row row)) _ h).0 in absurd (differ (is_vex_row row) l e)
vex_at bits row ps (Some v) opcode m h l =
    let inner = (and_parts (is_vex_row row) _ h).1 in
    let rest = (and_parts (same_map v.map row.map) (not (forbids_vex bits ps) && is_vex_of_mode bits v) inner).1 in
    record {
      v = v;
      stands = refl;
      map_is = same_map-is v.map row.map (and_parts (same_map v.map row.map) _ inner).0;
      mode = (and_parts (not (forbids_vex bits ps)) (is_vex_of_mode bits v) rest).1;
    }

-- the VEX of a spelling in range is in range
pub vex_range : (s : Spelling) → fields_in_range s ≡ true → vex_in_range s.vex ≡ true
unfolding fields_in_range
vex_range s h =
    let bytes = are_bytes s.disp.items && are_bytes s.imm.items in
    let r1 = modrm_in_range s.modrm && (sib_in_range s.sib && bytes) in
    (and_parts (vex_in_range s.vex) (nat_lt s.opcode 256 && r1) (and_parts (are_bytes s.prefixes.items) (vex_in_range s.vex && (nat_lt s.opcode 256 && r1)) h).1).0

rex_outside : (bits : Bits) (ps : List ℕ) → is_64 bits ≡ false → counting_rex bits ps ≡ None
unfolding counting_rex
rex_outside B16 ps h = refl
rex_outside B32 ps h = refl
rex_outside B64 ps h = cc

-- the parts of a state, by the spelling
pub state_vex : (bits : Bits) (row : Row) (s : Spelling) → (state_of bits row s).vex ≡ s.vex
unfolding state_of state_from
state_vex bits row s = refl

-- the REX of a state is the one that counts
pub state_rex : (bits : Bits) (row : Row) (s : Spelling) → (state_of bits row s).rex ≡ counting_rex bits s.prefixes.items
unfolding state_of state_from
state_rex bits row s = refl

-- its opcode byte is that of the spelling
pub state_opcode : (bits : Bits) (row : Row) (s : Spelling) → (state_of bits row s).opcode ≡ s.opcode
unfolding state_of state_from
state_opcode bits row s = refl

class_legacy : (row : Row) (st : PrefixState) → class_fits row st ≡ true → st.vex ≡ None → legacy_class_fits row.class st ≡ true
unfolding class_fits
class_legacy row st h e = subst (λ (x : Option Vex). (elim x [ None ↦ legacy_class_fits row.class st | Some v ↦ vex_class_fits row.class v ]) ≡ true) e h

class_vex : (row : Row) (st : PrefixState) (v : Vex) → class_fits row st ≡ true → st.vex ≡ Some v → vex_class_fits row.class v ≡ true
unfolding class_fits
class_vex row st v h e = rw e at h

sizes_size : (bits : Bits) (row : Row) (st : PrefixState) → sizes_fit bits row st ≡ true → size_fits bits row.size (state_size bits row st) (bit_w bits st) ≡ true
unfolding sizes_fit
sizes_size bits row st h = (and_parts (size_fits bits row.size (state_size bits row st) (bit_w bits st)) _ h).0

sizes_w : (bits : Bits) (row : Row) (st : PrefixState) (v : Vex) → sizes_fit bits row st ≡ true → st.vex ≡ Some v → w_fits row v ≡ true
unfolding sizes_fit
sizes_w bits row st v h e =
    let k = (and_parts (size_fits bits row.size (state_size bits row st) (bit_w bits st)) _ h).1 in
    let l : (w_fits row v && l_fits row.l v) ≡ true = rw e at k in
    (and_parts (w_fits row v) (l_fits row.l v) l).0

-- the state of a fitting spelling has fields that go together
pub state_is : (bits : Bits) (row : Row) (s : Spelling) → Fits bits row s → StateIs bits row (state_of bits row s)
state_is bits row s f =
    let st = state_of bits row s in
    record {
      legacy = λ e. state_vex bits row s ∙ no_vex bits row s.prefixes.items s.vex s.opcode s.modrm f.vex e;
      vex = λ e. (let a = vex_at bits row s.prefixes.items s.vex s.opcode s.modrm f.vex e in
          let stands : st.vex ≡ Some a.v = state_vex bits row s ∙ a.stands in
          record {
            v = a.v;
            stands = stands;
            map_is = a.map_is;
            mode = a.mode;
            range = subst (λ (x : Option Vex). vex_in_range x ≡ true) a.stands (vex_range s f.ranges);
            class = class_vex row st a.v f.class stands;
            w = sizes_w bits row st a.v f.sizes stands;
          });
      vex_rex = λ e. state_rex bits row s ∙ no_rex bits row s.prefixes.items s.vex s.opcode s.modrm f.vex e;
      rex_mode = λ e. state_rex bits row s ∙ rex_outside bits s.prefixes.items e;
      class = λ e. class_legacy row st f.class (state_vex bits row s ∙ no_vex bits row s.prefixes.items s.vex s.opcode s.modrm f.vex e);
      size = sizes_size bits row st f.sizes;
    }
