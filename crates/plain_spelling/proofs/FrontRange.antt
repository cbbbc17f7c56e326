-- The VEX of a plain front has fields of its ranges, where the registers have numbers of the mode.
use Rattle.std.proofs.Common.{◌≡◌, inl, inr, ℕ, suc, ◌<◌, Bool, true, false, ◌&&◌, ◌||◌, not, List, [], ◌∷◌, length, Some, None, refl, arith}
use Rattle.instruction_parts.proofs.Tests.{or_right}
use Rattle.std.specs.Prelude.{slice_index_or}
use Rattle.std.specs.List.{list_any}
use Rattle.std.proofs.lemmas.Bool.{lt-ltb, and_parts, cases_Bool, eqb-true, not-true}
use Rattle.x86_values.specs.declared.Bits.{Bits}
use Rattle.x86_values.specs.declared.Instr.{Instr}
use Rattle.instruction_parts.specs.declared.row_types.Row.{Row}
use Rattle.instruction_parts.specs.declared.row_types.Map.TheVariants.{M0f}
use Rattle.instruction_parts.specs.declared.row_types.Class.{Class}
use Rattle.instruction_parts.specs.declared.row_types.Class.TheVariants.{Any as AnyClass, Np, Nfx, Nf3, P66, F3 as ClassF3, F2 as ClassF2}
use Rattle.instruction_parts.specs.declared.row_types.LBit.TheVariants.{L256}
use Rattle.instruction_parts.specs.declared.row_types.OpKind.{OpKind}
use Rattle.instruction_parts.specs.declared.row_types.OpKind.TheVariants.{Absent}
use Rattle.instruction_parts.specs.declared.spelling.Vex.{Vex}
use Rattle.instruction_parts.specs.Kinds.{method_of, file_of}
use Rattle.instruction_parts.specs.Sizes.{is_vex_row}
use Rattle.row_fit.specs.Fits.{is_map_one, same_map, reads_by, vex_in_range, is_vvvv}
use Rattle.row_fit.specs.Sound.{Sound, kind_is_proper, vex_is_proper, is_no_w, is_no_l, is_class_of_vex, is_size_of_vex, size_says_w, is_fixed_rule, is_byte_file, has_four_operands}
use Rattle.plain_spelling.specs.PlainFront.{number_in_vvvv, number_asked_of, asks_r, asks_x, asks_b, asks_vex_w, asked_vex, class_pp, plain_front_of, byte_front}
use Rattle.plain_spelling.specs.Expressible.{each_operand, register_suits}
use Rattle.plain_spelling.proofs.Asked.{asked_vvvv-at, asked_vvvv-none}
use Rattle.plain_spelling.proofs.ImmediateRoom.{number-below}
use Rattle.plain_spelling.proofs.PlainFrontLaws.{byte_front-exact}

-- ---- the VEX

-- the VEX that a VEX row asks for
abbrev pub vex_for : Row → Instr → Vex
vex_for row i = record {
  three = not (same_map row.map M0f) || (asks_x row i || (asks_b row i || asks_vex_w row));
  r = asks_r row i;
  x = asks_x row i;
  b = asks_b row i;
  w = asks_vex_w row;
  l = elim row.l [ L256 ↦ true | _ ↦ false ];
  map = row.map;
  vvvv = number_asked_of number_in_vvvv row i;
  pp = class_pp row.class;
}

-- a VEX row is spelled with the VEX that is made for it
pub vex_of_vex : (row : Row) (i : Instr) → is_vex_row row ≡ true → asked_vex row i ≡ Some (vex_for row i)
unfolding asked_vex
vex_of_vex row i h = rw h refl

-- a legacy row is spelled without one
pub vex_of_legacy : (row : Row) (i : Instr) → is_vex_row row ≡ false → asked_vex row i ≡ None
unfolding asked_vex
vex_of_legacy row i h = rw h refl

-- ---- the row

-- the parts of a VEX row
pub record VexRow (row : Row) : Type 0 where
  pub class : is_class_of_vex row.class ≡ true
  pub map : is_map_one row.map ≡ false

vex_row_from : (row : Row) → vex_is_proper row ≡ true → VexRow row
unfolding vex_is_proper
vex_row_from row h =
    let bytes = not (list_any (λ kind. is_byte_file (file_of kind)) row.ops) in
    let h1 = (and_parts (not (is_no_w row.w)) (not (is_no_l row.l) && (is_class_of_vex row.class && (is_size_of_vex row.size && (size_says_w row.size row.w && (not (is_map_one row.map) && (not (is_fixed_rule row.modrm) && bytes)))))) h).1 in
    let h2 = (and_parts (not (is_no_l row.l)) (is_class_of_vex row.class && (is_size_of_vex row.size && (size_says_w row.size row.w && (not (is_map_one row.map) && (not (is_fixed_rule row.modrm) && bytes))))) h1).1 in
    let h3 = (and_parts (is_class_of_vex row.class) (is_size_of_vex row.size && (size_says_w row.size row.w && (not (is_map_one row.map) && (not (is_fixed_rule row.modrm) && bytes)))) h2).1 in
    let h4 = (and_parts (is_size_of_vex row.size) (size_says_w row.size row.w && (not (is_map_one row.map) && (not (is_fixed_rule row.modrm) && bytes))) h3).1 in
    let h5 = (and_parts (size_says_w row.size row.w) (not (is_map_one row.map) && (not (is_fixed_rule row.modrm) && bytes)) h4).1 in
    record {
      class = (and_parts (is_class_of_vex row.class) (is_size_of_vex row.size && (size_says_w row.size row.w && (not (is_map_one row.map) && (not (is_fixed_rule row.modrm) && bytes)))) h2).0;
      map = not-true (is_map_one row.map) (and_parts (not (is_map_one row.map)) (not (is_fixed_rule row.modrm) && bytes) h5).0;
    }

-- the parts of a sound VEX row
pub vex_row : (row : Row) → Sound row → is_vex_row row ≡ true → VexRow row
unfolding kind_is_proper
vex_row row s vex = vex_row_from row (rw vex at s.kind)

-- ---- the ranges

pp_below : (class : Class) → class_pp class < 4
unfolding class_pp
pp_below AnyClass = omega arith
pp_below Np = omega arith
pp_below Nfx = omega arith
pp_below Nf3 = omega arith
pp_below P66 = omega arith
pp_below ClassF3 = omega arith
pp_below ClassF2 = omega arith

two_or_three : (same x b w : Bool) → ((not same || (x || (b || w))) || (not x && (not b && (not w && same)))) ≡ true
two_or_three true true b w = refl
two_or_three true false true w = refl
two_or_three true false false true = refl
two_or_three true false false false = refl
two_or_three false x b w = refl

vex_for-range : (row : Row) (i : Instr) → Sound row → number_asked_of number_in_vvvv row i < 16 → is_vex_row row ≡ true → vex_in_range (Some (vex_for row i)) ≡ true
unfolding vex_in_range
vex_for-range row i s small vex =
    rw (lt-ltb (number_asked_of number_in_vvvv row i) 16 small)
    (rw (lt-ltb (class_pp row.class) 4 (pp_below row.class))
    (rw (vex_row row s vex).map (two_or_three (same_map row.map M0f) (asks_x row i) (asks_b row i) (asks_vex_w row))))

no_vex_in_range : vex_in_range None ≡ true
unfolding vex_in_range
no_vex_in_range = refl

-- **the VEX that the instruction asks for has fields of its ranges**
pub asked_vex-range : (row : Row) (i : Instr) → Sound row → number_asked_of number_in_vvvv row i < 16 → vex_in_range (asked_vex row i) ≡ true
asked_vex-range row i s small = elim (cases_Bool (is_vex_row row)) [
  | inl vex ↦ rw (vex_of_vex row i vex) (vex_for-range row i s small vex)
  | inr legacy ↦ rw (vex_of_legacy row i legacy) no_vex_in_range
]

-- ---- vvvv

some_kind : (p : OpKind → Bool) (kinds : List OpKind) → list_any p kinds ≡ true → (n : ℕ) × (n < length kinds) × (p (slice_index_or kinds n Absent) ≡ true)
some_kind p [] h = cc
some_kind p (kind ∷ kinds) h = elim (cases_Bool (p kind)) [
  | inl here ↦ (0, omega arith, here)
  | inr other ↦
      let rest = some_kind p kinds (or_right (p kind) (list_any p kinds) other h) in
      (suc rest.0, omega arith, rest.2)
]

four_kinds_of : (row : Row) → Sound row → length row.ops ≡ 4
unfolding has_four_operands
four_kinds_of row s = eqb-true (length row.ops) 4 s.four_operands

-- **where each register operand can be named, vvvv has a number of the mode**
pub vvvv-small : (bits : Bits) (row : Row) (i : Instr) → Sound row → length i.ops ≡ 4 → each_operand (register_suits bits row i) ≡ true → number_asked_of number_in_vvvv row i < 16
vvvv-small bits row i s four h = elim (cases_Bool (reads_by is_vvvv row)) [
  | inl reads ↦
      let some = some_kind (λ kind. is_vvvv (method_of kind)) row.ops reads in
      let whole = four_kinds_of row s in
      let n = some.0 in
      let within : n < 4 = omega (arith, some.1) in
      let e = asked_vvvv-at row i n s four within some.2 in
      let number = number-below bits row i h n within in
      omega arith
  | inr none ↦ (let e = asked_vvvv-none row i none in omega arith)
]

-- **there the front in bytes is the plain front**
pub byte_front-plain : (bits : Bits) (row : Row) (i : Instr) → Sound row → length i.ops ≡ 4 → each_operand (register_suits bits row i) ≡ true → byte_front bits row i ≡ plain_front_of bits row i
byte_front-plain bits row i s four h = (let small = vvvv-small bits row i s four h in byte_front-exact bits row i (omega arith))

-- **and its VEX has fields of its ranges**
pub plain_front-range : (bits : Bits) (row : Row) (i : Instr) → Sound row → length i.ops ≡ 4 → each_operand (register_suits bits row i) ≡ true → vex_in_range (plain_front_of bits row i).vex ≡ true
unfolding plain_front_of
plain_front-range bits row i s four h = asked_vex-range row i s (vvvv-small bits row i s four h)
