-- The eleven conditions of a fitting spelling, each by its name.
use Rattle.std.proofs.Common.{◌≡◌, true, false, ◌&&◌, ◌==◌, nat_lt, length, Option, Some, None, is_some, is_none, refl}
use Rattle.std.proofs.lemmas.Bool.{and_parts, eqb-true}
use Rattle.x86_values.specs.declared.Bits.{Bits}
use Rattle.instruction_parts.specs.declared.row_types.Row.{Row}
use Rattle.instruction_parts.specs.declared.row_types.Plus.{Plus}
use Rattle.instruction_parts.specs.declared.row_types.ModRmRule.{ModRmRule}
use Rattle.instruction_parts.specs.declared.row_types.ModRmRule.TheVariants.{No as NoModRm, Any as AnyModRm, Digit, Fixed as FixedByte}
use Rattle.instruction_parts.specs.declared.spelling.ModRm.{ModRm}
use Rattle.instruction_parts.specs.declared.spelling.Spelling.{Spelling}
use Rattle.instruction_parts.specs.Sizes.{state_size, state_address_size}
use Rattle.instruction_parts.specs.Bytes.{state_of, state_from}
use Rattle.row_fit.specs.Fits.{fits, Fits, mode_fits, prefixes_fit, class_fits, vex_fits, opcode_and_modrm_fit, modrm_rule_fits, sizes_fit, vvvv_fits, lengths_fit, lock_fits, registers_fit, fields_in_range, state_fits, tail_fits, vex_in_range, modrm_in_range, sib_in_range, are_bytes, address_fits, immediates_bytes}
use Rattle.row_fit.specs.Sound.{has_modrm_rule}

-- a fitting spelling meets each condition
pub all_conditions : (bits : Bits) (row : Row) (s : Spelling) → fits bits row s ≡ true → Fits bits row s
unfolding fits state_fits tail_fits state_of state_from
all_conditions bits row s h =
    let state = state_of bits row s in
    let disp = length s.disp.items in
    let imm = length s.imm.items in
    let mode = mode_fits bits row in
    let class = class_fits row state in
    let sizes = sizes_fit bits row state in
    let vvvv = vvvv_fits row state in
    let p = prefixes_fit bits s.prefixes.items in
    let v = vex_fits bits row s.prefixes.items s.vex s.opcode s.modrm in
    let o = opcode_and_modrm_fit row s.opcode s.modrm in
    let l = lengths_fit bits row state s.modrm s.sib disp imm in
    let k = lock_fits row state s.modrm in
    let g = registers_fit bits row state s.modrm s.sib in
    let t = tail_fits bits row state s.modrm s.sib disp imm in
    let r = fields_in_range s in
    let hs = (and_parts (mode && (class && (sizes && vvvv))) (p && (v && (t && r))) h).0 in
    let hs1 = (and_parts mode (class && (sizes && vvvv)) hs).1 in
    let hs2 = (and_parts class (sizes && vvvv) hs1).1 in
    let h1 = (and_parts (mode && (class && (sizes && vvvv))) (p && (v && (t && r))) h).1 in
    let h2 = (and_parts p (v && (t && r)) h1).1 in
    let h3 = (and_parts v (t && r) h2).1 in
    let ht = (and_parts t r h3).0 in
    let ht1 = (and_parts o (l && (k && g)) ht).1 in
    let ht2 = (and_parts l (k && g) ht1).1 in
    record {
      mode = (and_parts mode (class && (sizes && vvvv)) hs).0;
      prefixes = (and_parts p (v && (t && r)) h1).0;
      class = (and_parts class (sizes && vvvv) hs1).0;
      vex = (and_parts v (t && r) h2).0;
      opcode = (and_parts o (l && (k && g)) ht).0;
      sizes = (and_parts sizes vvvv hs2).0;
      vvvv = (and_parts sizes vvvv hs2).1;
      lengths = (and_parts l (k && g) ht1).0;
      lock = (and_parts k g ht2).0;
      registers = (and_parts k g ht2).1;
      ranges = (and_parts t r h3).1;
    }

no_modrm : (m : Option ModRm) → is_none m ≡ true → is_some m ≡ false
no_modrm None h = refl
no_modrm (Some m) h = cc

-- a ModRM stands exactly where the row's rule has one
pub modrm_stands : (plus : Plus) (rule : ModRmRule) (m : Option ModRm) → modrm_rule_fits plus rule m ≡ true → is_some m ≡ has_modrm_rule rule
unfolding modrm_rule_fits
modrm_stands plus NoModRm m h = no_modrm m h
modrm_stands plus AnyModRm m h = h
modrm_stands plus (Digit d) (Some m) h = refl
modrm_stands plus (Digit d) None h = cc
modrm_stands plus (FixedByte b) (Some m) h = refl
modrm_stands plus (FixedByte b) None h = cc

-- the ranges of what stands behind the opcode byte
pub record RangesBehind (s : Spelling) : Type 0 where
  pub modrm : modrm_in_range s.modrm ≡ true
  pub sib : sib_in_range s.sib ≡ true
  pub disp : are_bytes s.disp.items ≡ true
  pub imm : are_bytes s.imm.items ≡ true

-- the fields of a spelling in range, one by one
pub ranges_behind : (s : Spelling) → fields_in_range s ≡ true → RangesBehind s
unfolding fields_in_range
ranges_behind s h =
    let m = modrm_in_range s.modrm in
    let sib = sib_in_range s.sib in
    let disp = are_bytes s.disp.items in
    let imm = are_bytes s.imm.items in
    let r1 = m && (sib && (disp && imm)) in
    let h2 = (and_parts (are_bytes s.prefixes.items) (vex_in_range s.vex && (nat_lt s.opcode 256 && r1)) h).1 in
    let h3 = (and_parts (nat_lt s.opcode 256) r1 (and_parts (vex_in_range s.vex) (nat_lt s.opcode 256 && r1) h2).1).1 in
    let h4 = (and_parts m (sib && (disp && imm)) h3).1 in
    let h5 = (and_parts sib (disp && imm) h4).1 in
    record {
      modrm = (and_parts m (sib && (disp && imm)) h3).0;
      sib = (and_parts sib (disp && imm) h4).0;
      disp = (and_parts disp imm h5).0;
      imm = (and_parts disp imm h5).1;
    }

-- the ModRM of a spelling in range is in range
pub modrm_range : (s : Spelling) → fields_in_range s ≡ true → modrm_in_range s.modrm ≡ true
modrm_range s h = (ranges_behind s h).modrm

-- so the fields of its SIB are in range
pub sib_range : (s : Spelling) → fields_in_range s ≡ true → sib_in_range s.sib ≡ true
sib_range s h = (ranges_behind s h).sib

-- the immediates are as long as the row asks
pub immediates_length : (bits : Bits) (row : Row) (s : Spelling) → lengths_fit bits row (state_of bits row s) s.modrm s.sib (length s.disp.items) (length s.imm.items) ≡ true → length s.imm.items ≡ immediates_bytes (state_size bits row (state_of bits row s)) row
unfolding lengths_fit
immediates_length bits row s h =
    let state = state_of bits row s in
    eqb-true (length s.imm.items) (immediates_bytes (state_size bits row state) row)
    (and_parts (address_fits (state_address_size bits state) row s.modrm s.sib (length s.disp.items)) (length s.imm.items == immediates_bytes (state_size bits row state) row) h).1
