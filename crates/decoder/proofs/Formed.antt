-- What a fitting spelling of a sound row means has the form of the row.
use Rattle.std.proofs.Common.{◌≡◌, ◌⊎◌, inl, inr, ℕ, zero, suc, ◌+◌, ◌/◌, ◌%◌, ◌<◌, ◌≤◌, Bool, true, false, ◌&&◌, ◌||◌, not, ◌==◌, nat_lt, List, [], ◌∷◌, length, take, drop, Option, Some, None, is_some, is_none, refl, ap, sym, ◌∙◌, subst, arith, if◌then◌else◌, slice_index, slice_index_or, slice_get}
use Rattle.std.proofs.lemmas.Bool.{and_parts, cases_Bool, eqb-true, not-true}
use Rattle.instruction_parts.proofs.Tests.{or_right}
use Rattle.std.specs.List.{list_any, list_all}
use borrow.Author.Tests.{ltb-true, leb-true}
use Rattle.x86_values.specs.declared.Bits.{Bits}
use Rattle.x86_values.specs.declared.Code.{Code}
use Rattle.x86_values.specs.declared.Instr.{Instr}
use Rattle.x86_values.specs.declared.Decoded.{Decoded}
use Rattle.x86_values.specs.declared.Register.{Register}
use Rattle.x86_values.specs.declared.Operand.{Operand}
use Rattle.x86_values.specs.declared.Operand.TheVariants.{Reg, Mem as MemOperand}
use Rattle.instruction_parts.specs.declared.row_types.Row.{Row}
use Rattle.instruction_parts.specs.declared.row_types.Place.{Place}
use Rattle.instruction_parts.specs.declared.row_types.Place.TheVariants.{Any as AnyPlace, Memory, Register as OnlyRegister}
use Rattle.instruction_parts.specs.declared.row_types.ModRmRule.{ModRmRule}
use Rattle.instruction_parts.specs.declared.row_types.ModRmRule.TheVariants.{No as NoModRm, Any as AnyModRm, Digit, Fixed as FixedByte}
use Rattle.instruction_parts.specs.declared.row_types.OpKind.{OpKind}
use Rattle.instruction_parts.specs.declared.row_types.OpKind.TheVariants.{Absent, Dn as DnKind, Lx as LxKind, Cl as ClKind, Dx as DxKind, Cs as CsKind, Ss as SsKind, Ds as DsKind, Fs as FsKind, Gs as GsKind}
use Rattle.instruction_parts.specs.declared.kinds.Method.{Method}
use Rattle.instruction_parts.specs.declared.kinds.Method.TheVariants.{Nothing, ModRmReg, RegisterOrMemory, RegisterOnly, MemoryOnly, AnyMode, OpcodeLow, Vvvv, LastByte, Gather, Offset, AsWritten, Extended, Near as NearTarget, Pointer, Fixed, One as OneMethod}
use Rattle.instruction_parts.specs.declared.kinds.File.{File}
use Rattle.instruction_parts.specs.declared.kinds.File.TheVariants.{Byte as ByteFile, Debug as DebugFile, Vector as VectorFile}
use Rattle.instruction_parts.specs.declared.spelling.Vex.{Vex}
use Rattle.instruction_parts.specs.declared.spelling.ModRm.{ModRm}
use Rattle.instruction_parts.specs.declared.spelling.Sib.{Sib}
use Rattle.instruction_parts.specs.declared.spelling.Spelling.{Spelling}
use Rattle.instruction_parts.specs.declared.spelling.PrefixState.{PrefixState}
use Rattle.instruction_parts.specs.Kinds.{method_of, file_of, fixed_number}
use Rattle.instruction_parts.specs.Counting.{is_64}
use Rattle.instruction_parts.specs.Sizes.{state_size, bit_r, bit_x, bit_b, is_vex_row, state_address_size}
use Rattle.instruction_parts.specs.Bytes.{state_of, state_from}
use Rattle.row_fit.specs.Fits.{fits, Fits, has_modrm, reads_by, is_gather, is_any_mode, reads_mode, with_high_bit, reg_field, rm_field, reg_number, rm_number, vvvv_number, index_number, same_bool, place_allows, place_fits, modrm_rule_fits, opcode_fits, opcode_and_modrm_fit, needs_sib, displacement_bytes, address_fits, kind_at, lengths_fit, immediate_bytes, register_fits, destination_fits, gather_fits, registers_fit, are_bytes, vex_in_range, modrm_in_range, sib_in_range, fields_in_range, vex_fits, is_map_one}
use Rattle.row_fit.specs.Sound.{Sound, sound, reads_reg, reads_rm, has_modrm_rule, kind_is_proper, vex_is_proper, legacy_is_proper, is_fixed_rule, size_says_w, is_size_of_vex, is_class_of_vex, is_no_l, is_no_w, is_byte_file, operands_are_proper, operands_are_apart, count_where, at_most_one}
use Rattle.row_fit.proofs.SoundLaws.{sound_conditions}
use Rattle.row_fit.proofs.FitLaws.{all_conditions, modrm_range, sib_range}
use Rattle.row_meaning.specs.Meaning.{Tail, tail_of, register_of, memory_of, memory_operand, with_modrm, gather_memory, last_byte_number, near_target, far_pointer, operand_by, immediates_before, own_immediate, operand_at, instr_of, meaning}
use Rattle.row_relation.specs.RowReading.{RowReads}
use Rattle.opcode_rows.specs.Table.{table}
use Rattle.x86_values.specs.Operands.{is_memory}
use Rattle.plain_spelling.specs.Forms.{is_register, is_allowed_in, is_variant_of}
use Rattle.opcode_rows.specs.Allowed.{has_numbers, is_named, is_named_if, operand_is_formed, is_formed, is_well_formed}
use Rattle.opcode_rows.proofs.Formed.{well_formed-at}
use Rattle.decoder.proofs.ReadingLaws.{meaning_code}
use Rattle.decoder.proofs.FormedRegisters.{both, register_named, extended_small, extended_low, no_bit, address_numbers, SibRangeIf, with_sib_address, memory_address, absolute_address}

-- ---- one operand of a list

all_at : (p : OpKind → Bool) (kinds : List OpKind) (n : ℕ) → p Absent ≡ true → list_all p kinds ≡ true → p (slice_index_or kinds n Absent) ≡ true
all_at p [] n none h = none
all_at p (k ∷ kinds) zero none h = (and_parts (p k) (list_all p kinds) h).0
all_at p (k ∷ kinds) (suc n) none h = all_at p kinds n none (and_parts (p k) (list_all p kinds) h).1

or_false_left : (a b : Bool) → (a || b) ≡ false → a ≡ false
or_false_left true b h = cc
or_false_left false b h = refl

or_false_right : (a b : Bool) → (a || b) ≡ false → b ≡ false
or_false_right true b h = cc
or_false_right false b h = h

none_at : (p : OpKind → Bool) (kinds : List OpKind) (n : ℕ) → p Absent ≡ false → list_any p kinds ≡ false → p (slice_index_or kinds n Absent) ≡ false
none_at p [] n none h = none
none_at p (k ∷ kinds) zero none h = or_false_left (p k) (list_any p kinds) h
none_at p (k ∷ kinds) (suc n) none h = none_at p kinds n none (or_false_right (p k) (list_any p kinds) h)

any_at : (p : OpKind → Bool) (kinds : List OpKind) (n : ℕ) → p Absent ≡ false → p (slice_index_or kinds n Absent) ≡ true → list_any p kinds ≡ true
any_at p kinds n none h = elim (cases_Bool (list_any p kinds)) [
  | inl yes_any ↦ yes_any
  | inr no_any ↦ (let e = none_at p kinds n none no_any in cc)
]

-- ---- two operands of a list

count_step : (p : OpKind → Bool) (k : OpKind) (kinds : List OpKind) (test : Bool) → p k ≡ test → (test ≡ true) ⊎ (0 < count_where p kinds) → 0 < count_where p (k ∷ kinds)
count_step p k kinds true e h = rw e (omega arith)
count_step p k kinds false e (inl same) = cc
count_step p k kinds false e (inr more) = rw e (omega (arith, more))

or_cases : (a b : Bool) → (a || b) ≡ true → (a ≡ true) ⊎ (b ≡ true)
or_cases true b h = inl refl
or_cases false b h = inr h

or_from_right : (a b : Bool) → b ≡ true → (a || b) ≡ true
or_from_right true b h = refl
or_from_right false b h = h

or_from_left : (a b : Bool) → a ≡ true → (a || b) ≡ true
or_from_left true b h = refl
or_from_left false b h = cc

-- where some pass, some are counted
count_some : (p : OpKind → Bool) (kinds : List OpKind) → list_any p kinds ≡ true → 0 < count_where p kinds
count_some p [] h = cc
count_some p (k ∷ kinds) h = elim (or_cases (p k) (list_any p kinds) h) [
  | inl here ↦ count_step p k kinds (p k) refl (inl here)
  | inr there ↦ count_step p k kinds (p k) refl (inr (count_some p kinds there))
]

any_weaker : (p r : OpKind → Bool) → ((k : OpKind) → p k ≡ true → r k ≡ true) → (kinds : List OpKind) → list_any p kinds ≡ true → list_any r kinds ≡ true
any_weaker p r weak [] h = h
any_weaker p r weak (k ∷ kinds) h = elim (or_cases (p k) (list_any p kinds) h) [
  | inl here ↦ or_from_left (r k) (list_any r kinds) (weak k here)
  | inr there ↦ or_from_right (r k) (list_any r kinds) (any_weaker p r weak kinds there)
]

one_more : (r : OpKind → Bool) (k : OpKind) (kinds : List OpKind) → r k ≡ true → count_where r (k ∷ kinds) ≡ 1 + count_where r kinds
one_more r k kinds h = rw h refl

no_fewer : (r : OpKind → Bool) (k : OpKind) (kinds : List OpKind) (test : Bool) → r k ≡ test → count_where r kinds ≤ count_where r (k ∷ kinds)
no_fewer r k kinds true e = rw e (omega arith)
no_fewer r k kinds false e = rw e (omega arith)

-- where some are of one sort and some of another, two are counted
count_two : (p q r : OpKind → Bool) → ((k : OpKind) → p k ≡ true → r k ≡ true) → ((k : OpKind) → q k ≡ true → r k ≡ true) → ((k : OpKind) → p k ≡ true → q k ≡ true → ⊥) → (kinds : List OpKind) → list_any p kinds ≡ true → list_any q kinds ≡ true → 2 ≤ count_where r kinds
count_two p q r wp wq apart [] hp hq = cc
count_two p q r wp wq apart (k ∷ kinds) hp hq = elim (or_cases (p k) (list_any p kinds) hp) [
  | inl p_here ↦ elim (or_cases (q k) (list_any q kinds) hq) [
    | inl q_here ↦ absurd (apart k p_here q_here)
    | inr q_there ↦ omega (arith, one_more r k kinds (wp k p_here), count_some r kinds (any_weaker q r wq kinds q_there))
  ]
  | inr p_there ↦ elim (or_cases (q k) (list_any q kinds) hq) [
    | inl q_here ↦ omega (arith, one_more r k kinds (wq k q_here), count_some r kinds (any_weaker p r wp kinds p_there))
    | inr q_there ↦ omega (arith, count_two p q r wp wq apart kinds p_there q_there, no_fewer r k kinds (r k) refl)
  ]
]

-- ---- what a sound row says of its operands

gather_reads_rm : (m : Method) → is_gather m ≡ true → reads_rm m ≡ true
gather_reads_rm Gather h = refl
gather_reads_rm _ h = cc

any_mode_reads_rm : (m : Method) → is_any_mode m ≡ true → reads_rm m ≡ true
any_mode_reads_rm AnyMode h = refl
any_mode_reads_rm _ h = cc

gather_is_not_any_mode : (m : Method) → is_gather m ≡ true → is_any_mode m ≡ true → ⊥
gather_is_not_any_mode Gather h k = cc
gather_is_not_any_mode _ h k = cc

-- a row with a gather reads ModRM.mod
gather_reads_mode : (row : Row) → at_most_one reads_rm row ≡ true → reads_by is_gather row ≡ true → reads_by is_any_mode row ≡ false
gather_reads_mode row one gather = elim (cases_Bool (reads_by is_any_mode row)) [
  | inr never ↦ never
  | inl some_mode ↦
      let most : count_where (λ kind. reads_rm (method_of kind)) row.ops ≤ 1 = leb-true _ 1 one in
      let two = count_two (λ kind. is_gather (method_of kind)) (λ kind. is_any_mode (method_of kind)) (λ kind. reads_rm (method_of kind))
      (λ k. gather_reads_rm (method_of k)) (λ k. any_mode_reads_rm (method_of k)) (λ k. gather_is_not_any_mode (method_of k)) row.ops gather some_mode in
      absurd (omega (arith, most, two))
]

debug_is_dn : (kind : OpKind) → file_of kind ≡ DebugFile → kind ≡ DnKind
unfolding file_of
debug_is_dn DnKind h = refl
debug_is_dn _ h = cc

-- ---- what fitting says of the operands

-- the row, its state and its tail, as the operands rest on them
record OperandFacts (bits : Bits) (row : Row) (state : PrefixState) (m : Option ModRm) (sib : Option Sib) : Type 0 where
  modrm_range : modrm_in_range m ≡ true
  sib_range : sib_in_range sib ≡ true
  vex_range : vex_in_range state.vex ≡ true
  place : place_fits row m ≡ true
  registers : list_all (register_fits bits state m) row.ops ≡ true
  byte : (n : ℕ) → file_of (kind_at row n) ≡ ByteFile → state.vex ≡ None
  reg : (n : ℕ) → reads_reg (method_of (kind_at row n)) ≡ true → is_some m ≡ true
  rm : (n : ℕ) → reads_rm (method_of (kind_at row n)) ≡ true → is_some m ≡ true
  gather : (n : ℕ) → is_gather (method_of (kind_at row n)) ≡ true → is_some sib ≡ true

no_byte_file : (row : Row) → vex_is_proper row ≡ true → list_any (λ kind. is_byte_file (file_of kind)) row.ops ≡ false
unfolding vex_is_proper
no_byte_file row h =
    not-true _ (and_parts (not (is_fixed_rule row.modrm)) _ (and_parts (not (is_map_one row.map)) _ (and_parts (size_says_w row.size row.w) _
    (and_parts (is_size_of_vex row.size) _ (and_parts (is_class_of_vex row.class) _ (and_parts (not (is_no_l row.l)) _ (and_parts (not (is_no_w row.w)) _ h).1).1).1).1).1).1).1

absent_is_no_byte : is_byte_file (file_of Absent) ≡ false
unfolding file_of
absent_is_no_byte = refl

-- a row with a byte register is no VEX row
byte_is_legacy : (row : Row) (n : ℕ) → kind_is_proper row ≡ true → file_of (kind_at row n) ≡ ByteFile → is_vex_row row ≡ false
unfolding kind_is_proper
byte_is_legacy row n proper file = by_kind (is_vex_row row) proper
  where
    is_byte : (f : File) → f ≡ ByteFile → is_byte_file f ≡ true
    is_byte f e = ap is_byte_file e

    by_kind : (test : Bool) → (if test then vex_is_proper row else legacy_is_proper row) ≡ true → test ≡ false
    by_kind false h = refl
    by_kind true h =
        let none = none_at (λ kind. is_byte_file (file_of kind)) row.ops n absent_is_no_byte (no_byte_file row h) in
        let some_byte = is_byte (file_of (kind_at row n)) file in cc

-- a legacy row's state has no VEX
no_vex : (bits : Bits) (row : Row) (prefixes : List ℕ) (vex : Option Vex) (opcode : ℕ) (m : Option ModRm) → vex_fits bits row prefixes vex opcode m ≡ true → is_vex_row row ≡ false → vex ≡ None
unfolding vex_fits
no_vex bits row prefixes None opcode m h legacy = refl
no_vex bits row prefixes (Some v) opcode m h legacy =
    let e = (and_parts (is_vex_row row) _ h).0 in cc

-- a row with a ModRM has it
modrm_there : (row : Row) (opcode : ℕ) (m : Option ModRm) → opcode_and_modrm_fit row opcode m ≡ true → has_modrm_rule row.modrm ≡ true → is_some m ≡ true
unfolding opcode_and_modrm_fit modrm_rule_fits
modrm_there row opcode m h rule =
    by_rule row.modrm rule (and_parts (modrm_rule_fits row.plus row.modrm m) (place_fits row m) (and_parts (opcode_fits row opcode) (modrm_rule_fits row.plus row.modrm m && place_fits row m) h).1).0
  where
    some_passes : (p : ModRm → Bool) (o : Option ModRm) → has_modrm p o ≡ true → is_some o ≡ true
    some_passes p None e = cc
    some_passes p (Some x) e = refl

    by_rule : (r : ModRmRule) → has_modrm_rule r ≡ true → modrm_rule_fits row.plus r m ≡ true → is_some m ≡ true
    by_rule NoModRm e f = cc
    by_rule AnyModRm e f = f
    by_rule (Digit d) e f = some_passes _ m f
    by_rule (FixedByte b) e f = some_passes _ m f

reg_rule : (row : Row) → operands_are_proper row ≡ true → (reads_by reads_reg row ≡ true) ⊎ (reads_by reads_rm row ≡ true) → has_modrm_rule row.modrm ≡ true
unfolding operands_are_proper
reg_rule row h reads =
    let first = (and_parts ((not (reads_by reads_reg row) && not (reads_by reads_rm row)) || has_modrm_rule row.modrm) _ h).0 in
    or_right (not (reads_by reads_reg row) && not (reads_by reads_rm row)) (has_modrm_rule row.modrm) (neither reads) first
  where
    neither : (reads_by reads_reg row ≡ true) ⊎ (reads_by reads_rm row ≡ true) → (not (reads_by reads_reg row) && not (reads_by reads_rm row)) ≡ false
    neither (inl e) = rw e refl
    neither (inr e) = rw e (and_false (not (reads_by reads_reg row)))
      where
        and_false : (b : Bool) → (b && false) ≡ false
        and_false true = refl
        and_false false = refl

by_gather : (reads fit : Bool) → reads ≡ true → (not reads || fit) ≡ true → fit ≡ true
by_gather true fit r h = h
by_gather false fit r h = cc

reads_mode_from : (row : Row) → reads_by is_any_mode row ≡ false → reads_mode row ≡ true
unfolding reads_mode
reads_mode_from row h = ap not h

same_as_true : (a b : Bool) → b ≡ true → same_bool a b ≡ true → a ≡ true
same_as_true true b e h = refl
same_as_true false b e h = let n = not-true b h in cc

sib_from : (asize : Bits) (row : Row) (m : ModRm) (sib : Option Sib) (disp : ℕ) → reads_mode row ≡ true → needs_sib asize m ≡ true → address_fits asize row (Some m) sib disp ≡ true → is_some sib ≡ true
unfolding address_fits
sib_from asize row m sib disp reads needs h = by_mode (reads_mode row) reads h
  where
    by_mode : (test : Bool) → test ≡ true → (if test then same_bool (is_some sib) (needs_sib asize m) && disp == displacement_bytes asize m sib else is_none sib && disp == 0) ≡ true → is_some sib ≡ true
    by_mode true t e = same_as_true (is_some sib) (needs_sib asize m) needs (and_parts _ _ e).0
    by_mode false t e = cc

-- a gather has a SIB
gather_sib : (bits : Bits) (row : Row) (state : PrefixState) (m : Option ModRm) (sib : Option Sib) (disp imm : ℕ) → reads_by is_gather row ≡ true → at_most_one reads_rm row ≡ true → lengths_fit bits row state m sib disp imm ≡ true → registers_fit bits row state m sib ≡ true → is_some sib ≡ true
unfolding lengths_fit registers_fit gather_fits
gather_sib bits row state None sib disp imm gather one lengths registers =
    let rest = (and_parts (list_all (register_fits bits state None) row.ops) _ registers).1 in
    let fit = by_gather (reads_by is_gather row) (gather_fits bits state None sib) gather (and_parts (not (reads_by is_gather row) || gather_fits bits state None sib) _ (and_parts (destination_fits row None) _ rest).1).0 in
    cc
gather_sib bits row state (Some m) sib disp imm gather one lengths registers =
    let asize = state_address_size bits state in
    let fit = by_gather (reads_by is_gather row) (gather_fits bits state (Some m) sib) gather (and_parts _ _ (and_parts _ _ (and_parts _ _ registers).1).1).0 in
    let needs : needs_sib asize m ≡ true = (and_parts (needs_sib asize m) _ fit).0 in
    let reads : reads_mode row ≡ true = reads_mode_from row (gather_reads_mode row one gather) in
    sib_from asize row m sib disp reads needs (and_parts (address_fits asize row (Some m) sib disp) _ lengths).0

-- ---- the numbers that are read

reg_small : (m : Option ModRm) → modrm_in_range m ≡ true → (reg_field m < 8) × (rm_field m < 8)
unfolding modrm_in_range
reg_small None h = (omega arith, omega arith)
reg_small (Some m) h =
    let rest = (and_parts (nat_lt m.mode3 4) (nat_lt m.reg 8 && nat_lt m.rm 8) h).1 in
    (ltb-true m.reg 8 (and_parts (nat_lt m.reg 8) (nat_lt m.rm 8) rest).0, ltb-true m.rm 8 (and_parts (nat_lt m.reg 8) (nat_lt m.rm 8) rest).1)

sib_small : (sib : Option Sib) → sib_in_range sib ≡ true → SibRangeIf sib
unfolding sib_in_range
sib_small None h = tt
sib_small (Some s) h =
    let rest = (and_parts (nat_lt s.scale 4) (nat_lt s.index 8 && nat_lt s.base 8) h).1 in
    record {
      scale = ltb-true s.scale 4 (and_parts (nat_lt s.scale 4) (nat_lt s.index 8 && nat_lt s.base 8) h).0;
      index = ltb-true s.index 8 (and_parts (nat_lt s.index 8) (nat_lt s.base 8) rest).0;
      base = ltb-true s.base 8 (and_parts (nat_lt s.index 8) (nat_lt s.base 8) rest).1;
    }

-- the four fields that name a register, as numbers
record Numbers (bits : Bits) (state : PrefixState) (m : Option ModRm) (sib : Option Sib) : Type 0 where
  reg : reg_number state m < 16
  rm : rm_number bits state m < 16
  index : index_number state sib < 16
  vvvv : vvvv_number bits state < 16
  opcode : with_high_bit (bit_b bits state) (state.opcode % 8) < 16

vvvv_small : (bits : Bits) (state : PrefixState) → vex_in_range state.vex ≡ true → vvvv_number bits state < 16
unfolding vvvv_number vex_in_range
vvvv_small bits state h = by_vex state.vex h
  where
    by_mode : (v : Vex) (test : Bool) → v.vvvv < 16 → (if test then v.vvvv else v.vvvv % 8) < 16
    by_mode v true e = e
    by_mode v false e = omega arith

    by_vex : (vex : Option Vex) → vex_in_range vex ≡ true → (elim vex [ None ↦ 0 | Some v ↦ (if is_64 bits then v.vvvv else v.vvvv % 8) ]) < 16
    by_vex None e = omega arith
    by_vex (Some v) e = by_mode v (is_64 bits) (ltb-true v.vvvv 16 (and_parts (nat_lt v.vvvv 16) _ e).0)

index_small : (state : PrefixState) (sib : Option Sib) → SibRangeIf sib → index_number state sib < 16
unfolding index_number
index_small state None r = extended_small (bit_x state) 0 (omega arith)
index_small state (Some s) r = extended_small (bit_x state) s.index r.index

numbers : (bits : Bits) (row : Row) (state : PrefixState) (m : Option ModRm) (sib : Option Sib) → OperandFacts bits row state m sib → Numbers bits state m sib
unfolding reg_number rm_number
numbers bits row state m sib f =
    let fields = reg_small m f.modrm_range in
    record {
      reg = extended_small (bit_r state) (reg_field m) fields.0;
      rm = extended_small (bit_b bits state) (rm_field m) fields.1;
      index = index_small state sib (sib_small sib f.sib_range);
      vvvv = vvvv_small bits state f.vex_range;
      opcode = extended_small (bit_b bits state) (state.opcode % 8) (omega arith);
    }

-- the same without VEX and REX
record LowNumbers (bits : Bits) (state : PrefixState) (m : Option ModRm) (sib : Option Sib) : Type 0 where
  reg : reg_number state m < 8
  rm : rm_number bits state m < 8
  index : index_number state sib < 8
  vvvv : vvvv_number bits state < 8
  opcode : with_high_bit (bit_b bits state) (state.opcode % 8) < 8

low_numbers : (bits : Bits) (row : Row) (state : PrefixState) (m : Option ModRm) (sib : Option Sib) → OperandFacts bits row state m sib → state.vex ≡ None → state.rex ≡ None → LowNumbers bits state m sib
unfolding reg_number rm_number index_number vvvv_number bit_r bit_x bit_b
low_numbers bits row state m sib f v r =
    let fields = reg_small m f.modrm_range in
    record {
      reg = extended_low (bit_r state) (reg_field m) (no_bit (λ v. v.r) 2 state v r) fields.0;
      rm = extended_low (bit_b bits state) (rm_field m) (b_is v r) fields.1;
      index = extended_low (bit_x state) _ (no_bit (λ v. v.x) 1 state v r) (index_field sib (sib_small sib f.sib_range));
      vvvv = rw v (omega arith);
      opcode = extended_low (bit_b bits state) (state.opcode % 8) (b_is v r) (omega arith);
    }
  where
    and_false : (b c : Bool) → c ≡ false → (b && c) ≡ false
    and_false true c e = e
    and_false false c e = refl

    b_is : state.vex ≡ None → state.rex ≡ None → bit_b bits state ≡ false
    b_is a b = and_false (is_64 bits) _ (no_bit (λ v. v.b) 0 state a b)

    index_field : (o : Option Sib) → SibRangeIf o → (elim o [ None ↦ 0 | Some s ↦ s.index ]) < 8
    index_field None e = omega arith
    index_field (Some s) e = e.index

-- ---- one operand

-- the only kind that names debug registers is read from ModRM.reg
debug_reads_reg : (kind : OpKind) → file_of kind ≡ DebugFile → method_of kind ≡ ModRmReg
unfolding method_of
debug_reads_reg kind h = ap method_of (debug_is_dn kind h)

-- the only kind that is read from the last byte names vector registers
last_byte_is_lx : (kind : OpKind) → method_of kind ≡ LastByte → kind ≡ LxKind
unfolding method_of
last_byte_is_lx LxKind h = refl
last_byte_is_lx _ h = cc

lx_is_vector : file_of LxKind ≡ VectorFile
unfolding file_of
lx_is_vector = refl

fixed_small : (kind : OpKind) → fixed_number kind < 8
unfolding fixed_number
fixed_small ClKind = omega arith
fixed_small DxKind = omega arith
fixed_small CsKind = omega arith
fixed_small SsKind = omega arith
fixed_small DsKind = omega arith
fixed_small FsKind = omega arith
fixed_small GsKind = omega arith
fixed_small _ = omega arith

-- the first byte of some, 0 without one
first_small : (bytes : List ℕ) → are_bytes bytes ≡ true → slice_index bytes 0 < 256
first_small [] h = omega arith
first_small (b ∷ bytes) h = ltb-true b 256 (and_parts (nat_lt b 256) (are_bytes bytes) h).0

last_byte_small : (bits : Bits) (imm : List ℕ) → are_bytes imm ≡ true → last_byte_number bits imm < 16
unfolding last_byte_number
last_byte_small bits imm h = by_mode (is_64 bits) (first_small imm h)
  where
    by_mode : (test : Bool) → slice_index imm 0 < 256 → (if test then slice_index imm 0 / 16 else slice_index imm 0 / 16 % 8) < 16
    by_mode true e = omega arith
    by_mode false e = omega arith

reg_number_low : (state : PrefixState) (m : Option ModRm) → modrm_in_range m ≡ true → bit_r state ≡ false → reg_number state m < 8
unfolding reg_number
reg_number_low state m range e = extended_low (bit_r state) (reg_field m) e (reg_small m range).0

debug_register : (bits : Bits) (state : PrefixState) (m : Option ModRm) (kind : OpKind) → kind ≡ DnKind → register_fits bits state m kind ≡ true → bit_r state ≡ false
unfolding register_fits
debug_register bits state m kind e h =
    not-true (bit_r state) (subst (λ (k : OpKind). register_fits bits state m k ≡ true) e h)

absent_fits : (bits : Bits) (state : PrefixState) (m : Option ModRm) → register_fits bits state m Absent ≡ true
unfolding register_fits
absent_fits bits state m = refl

-- the parts that one operand is read from
record OneOperand (bits : Bits) (row : Row) (state : PrefixState) (t : Tail) (n : ℕ) (imm : List ℕ) : Type 0 where
  facts : OperandFacts bits row state t.modrm t.sib
  immediate : are_bytes imm ≡ true

-- a register that is not read from ModRM.reg
other_register : (bits : Bits) (row : Row) (state : PrefixState) (t : Tail) (n : ℕ) (imm : List ℕ) (method : Method) (number : ℕ) → OneOperand bits row state t n imm → method_of (kind_at row n) ≡ method → (method ≡ ModRmReg → ⊥) → number < 16 → (state.vex ≡ None → state.rex ≡ None → number < 8) → is_named (register_of bits row state (file_of (kind_at row n)) number) ≡ true
other_register bits row state t n imm method number o e other small low =
    let kind = kind_at row n in
    register_named bits row state (file_of kind) number (record {
      small = small;
      byte = λ file rex. low (o.facts.byte n file) rex;
      debug = λ file. absurd (other (sym e ∙ debug_reads_reg kind file));
    })

-- a register of ModRM.reg
reg_register : (bits : Bits) (row : Row) (state : PrefixState) (t : Tail) (n : ℕ) (imm : List ℕ) → OneOperand bits row state t n imm → is_named (register_of bits row state (file_of (kind_at row n)) (reg_number state t.modrm)) ≡ true
reg_register bits row state t n imm o =
    let f = o.facts in
    let kind = kind_at row n in
    register_named bits row state (file_of kind) (reg_number state t.modrm) (record {
      small = (numbers bits row state t.modrm t.sib f).reg;
      byte = λ file rex. (low_numbers bits row state t.modrm t.sib f (f.byte n file) rex).reg;
      debug = λ file. reg_number_low state t.modrm f.modrm_range
          (debug_register bits state t.modrm kind (debug_is_dn kind file)
          (all_at (register_fits bits state t.modrm) row.ops n (absent_fits bits state t.modrm) f.registers));
    })

-- memory by ModRM
modrm_memory : (bits : Bits) (state : PrefixState) (m : ModRm) (sib : Option Sib) (disp : List ℕ) (next : ℕ) → modrm_in_range (Some m) ≡ true → sib_in_range sib ≡ true → has_numbers (MemOperand (memory_of bits (state_address_size bits state) state m sib next disp)) ≡ true
modrm_memory bits state m sib disp next range sibs =
    address_numbers _ (memory_address bits (state_address_size bits state) state m sib next disp (reg_small (Some m) range).1 (sib_small sib sibs))

-- the row's limit allows what mod says
allowed_memory : (place : Place) (m : ModRm) (x : Operand) → place_allows place m ≡ true → nat_lt m.mode3 3 ≡ true → is_memory x ≡ true → is_allowed_in place x ≡ true
unfolding place_allows is_allowed_in
allowed_memory AnyPlace m x h e k = or_from_right (is_register x) (is_memory x) k
allowed_memory Memory m x h e k = k
allowed_memory OnlyRegister m x h e k =
    let three = eqb-true m.mode3 3 h in
    let less = ltb-true m.mode3 3 e in absurd (omega arith)

allowed_register : (place : Place) (m : ModRm) (x : Operand) → place_allows place m ≡ true → nat_lt m.mode3 3 ≡ false → is_register x ≡ true → is_allowed_in place x ≡ true
unfolding place_allows is_allowed_in
allowed_register AnyPlace m x h e k = or_from_left (is_register x) (is_memory x) k
allowed_register Memory m x h e k = cc
allowed_register OnlyRegister m x h e k = k

place_of_row : (row : Row) (m : ModRm) → place_fits row (Some m) ≡ true → place_allows row.place m ≡ true
unfolding place_fits
place_of_row row m h = (and_parts (place_allows row.place m) _ h).0

-- ---- operands by how they are read

rm_formed : (bits : Bits) (row : Row) (state : PrefixState) (o : Option ModRm) (sib : Option Sib) (disp : List ℕ) (next : ℕ) (r : Register) → is_some o ≡ true → modrm_in_range o ≡ true → sib_in_range sib ≡ true → place_fits row o ≡ true → is_named r ≡ true → (let x : Operand = if has_modrm (λ m. nat_lt m.mode3 3) o then memory_operand bits state o sib disp next else Reg r in (is_allowed_in row.place x && has_numbers x)) ≡ true
unfolding memory_operand has_numbers
rm_formed bits row state None sib disp next r there range sibs place named = cc
rm_formed bits row state (Some m) sib disp next r there range sibs place named =
    step (nat_lt m.mode3 3) refl
  where
    memory : Operand
    memory = MemOperand (memory_of bits (state_address_size bits state) state m sib next disp)

    step : (test : Bool) → nat_lt m.mode3 3 ≡ test → (let x : Operand = if test then memory else Reg r in (is_allowed_in row.place x && has_numbers x)) ≡ true
    step true e = both _ _ (allowed_memory row.place m memory (place_of_row row m place) e refl) (modrm_memory bits state m sib disp next range sibs)
    step false e = both _ _ (allowed_register row.place m (Reg r) (place_of_row row m place) e refl) named

memory_formed : (bits : Bits) (state : PrefixState) (o : Option ModRm) (sib : Option Sib) (disp : List ℕ) (next : ℕ) → is_some o ≡ true → modrm_in_range o ≡ true → sib_in_range sib ≡ true → (is_memory (memory_operand bits state o sib disp next) && has_numbers (memory_operand bits state o sib disp next)) ≡ true
unfolding memory_operand
memory_formed bits state None sib disp next there range sibs = cc
memory_formed bits state (Some m) sib disp next there range sibs = modrm_memory bits state m sib disp next range sibs

gather_formed : (bits : Bits) (row : Row) (state : PrefixState) (file : File) (o : Option ModRm) (sib : Option Sib) (disp : List ℕ) → is_some o ≡ true → is_some sib ≡ true → sib_in_range sib ≡ true → is_named (register_of bits row state file (index_number state sib)) ≡ true → (let x : Operand = with_modrm (λ m. gather_memory bits row state file m sib disp) o in (is_memory x && has_numbers x)) ≡ true
unfolding gather_memory is_named_if
gather_formed bits row state file None sib disp there sib_there sibs named = cc
gather_formed bits row state file (Some m) None disp there sib_there sibs named = cc
gather_formed bits row state file (Some m) (Some s) disp there sib_there sibs named =
    address_numbers _ (with_sib_address bits (state_address_size bits state) state _ m s disp (sib_small (Some s) sibs) named)

-- **an operand has the form that its kind and the row ask for**
one_formed : (bits : Bits) (row : Row) (state : PrefixState) (t : Tail) (n : ℕ) (imm : List ℕ) (method : Method) → OneOperand bits row state t n imm → method_of (kind_at row n) ≡ method → (let x : Operand = operand_by bits row state t (kind_at row n) method imm in (is_variant_of row.place method x && has_numbers x)) ≡ true
unfolding operand_by is_variant_of has_numbers near_target far_pointer
one_formed bits row state t n imm Nothing o e = refl
one_formed bits row state t n imm ModRmReg o e = reg_register bits row state t n imm o
one_formed bits row state t n imm RegisterOrMemory o e =
    let f = o.facts in
    rm_formed bits row state t.modrm t.sib t.disp t.next _ (f.rm n (ap reads_rm e)) f.modrm_range f.sib_range f.place
    (other_register bits row state t n imm RegisterOrMemory _ o e (λ k. cc) (numbers bits row state t.modrm t.sib f).rm (λ v r. (low_numbers bits row state t.modrm t.sib f v r).rm))
one_formed bits row state t n imm RegisterOnly o e =
    let f = o.facts in
    other_register bits row state t n imm RegisterOnly _ o e (λ k. cc) (numbers bits row state t.modrm t.sib f).rm (λ v r. (low_numbers bits row state t.modrm t.sib f v r).rm)
one_formed bits row state t n imm AnyMode o e =
    let f = o.facts in
    other_register bits row state t n imm AnyMode _ o e (λ k. cc) (numbers bits row state t.modrm t.sib f).rm (λ v r. (low_numbers bits row state t.modrm t.sib f v r).rm)
one_formed bits row state t n imm MemoryOnly o e =
    let f = o.facts in
    memory_formed bits state t.modrm t.sib t.disp t.next (f.rm n (ap reads_rm e)) f.modrm_range f.sib_range
one_formed bits row state t n imm OpcodeLow o e =
    let f = o.facts in
    other_register bits row state t n imm OpcodeLow _ o e (λ k. cc) (numbers bits row state t.modrm t.sib f).opcode (λ v r. (low_numbers bits row state t.modrm t.sib f v r).opcode)
one_formed bits row state t n imm Vvvv o e =
    let f = o.facts in
    other_register bits row state t n imm Vvvv _ o e (λ k. cc) (numbers bits row state t.modrm t.sib f).vvvv (λ v r. (low_numbers bits row state t.modrm t.sib f v r).vvvv)
one_formed bits row state t n imm LastByte o e =
    let kind = kind_at row n in
    let file : file_of kind ≡ VectorFile = ap file_of (last_byte_is_lx kind e) ∙ lx_is_vector in
    register_named bits row state (file_of kind) (last_byte_number bits imm) (record {
      small = last_byte_small bits imm o.immediate;
      byte = λ h rex. cc;
      debug = λ h. cc;
    })
one_formed bits row state t n imm Gather o e =
    let f = o.facts in
    gather_formed bits row state _ t.modrm t.sib t.disp (f.rm n (ap reads_rm e)) (f.gather n (ap is_gather e)) f.sib_range
    (other_register bits row state t n imm Gather _ o e (λ k. cc) (numbers bits row state t.modrm t.sib f).index (λ v r. (low_numbers bits row state t.modrm t.sib f v r).index))
one_formed bits row state t n imm Offset o e = address_numbers _ (absolute_address (state_address_size bits state) t.disp)
one_formed bits row state t n imm AsWritten o e = refl
one_formed bits row state t n imm Extended o e = refl
one_formed bits row state t n imm NearTarget o e = refl
one_formed bits row state t n imm Pointer o e = refl
one_formed bits row state t n imm Fixed o e =
    let small = fixed_small (kind_at row n) in
    other_register bits row state t n imm Fixed _ o e (λ k. cc) (omega arith) (λ v r. small)
one_formed bits row state t n imm OneMethod o e = refl

-- ---- the instruction

take_bytes : (n : ℕ) (bytes : List ℕ) → are_bytes bytes ≡ true → are_bytes (take n bytes) ≡ true
take_bytes zero bytes h = refl
take_bytes (suc n) [] h = refl
take_bytes (suc n) (b ∷ bytes) h =
    both (nat_lt b 256) (are_bytes (take n bytes)) (and_parts (nat_lt b 256) (are_bytes bytes) h).0 (take_bytes n bytes (and_parts (nat_lt b 256) (are_bytes bytes) h).1)

drop_bytes : (n : ℕ) (bytes : List ℕ) → are_bytes bytes ≡ true → are_bytes (drop n bytes) ≡ true
drop_bytes zero bytes h = h
drop_bytes (suc n) [] h = refl
drop_bytes (suc n) (b ∷ bytes) h = drop_bytes n bytes (and_parts (nat_lt b 256) (are_bytes bytes) h).1

-- operand n
operand_formed : (bits : Bits) (row : Row) (state : PrefixState) (t : Tail) (imm : List ℕ) (n : ℕ) → OperandFacts bits row state t.modrm t.sib → are_bytes imm ≡ true → (let x : Operand = operand_at bits row state t imm n in (is_variant_of row.place (method_of (kind_at row n)) x && has_numbers x)) ≡ true
unfolding operand_at own_immediate
operand_formed bits row state t imm n f bytes =
    let size = state_size bits row state in
    let own = own_immediate size row n imm in
    let before = immediates_before size row n in
    let own_bytes : are_bytes own ≡ true =
    take_bytes (immediate_bytes size (kind_at row n)) (drop before imm) (drop_bytes before imm bytes) in
    one_formed bits row state t n own (method_of (kind_at row n)) (record { facts = f; immediate = own_bytes }) refl

-- the instruction of a state, a tail and its immediates
instruction_formed : (bits : Bits) (code : Code) (row : Row) (state : PrefixState) (t : Tail) (imm : List ℕ) → OperandFacts bits row state t.modrm t.sib → are_bytes imm ≡ true → is_formed row (instr_of bits code row state t imm) ≡ true
unfolding instr_of is_formed operand_is_formed
instruction_formed bits code row state t imm f bytes =
    both _ _ (operand_formed bits row state t imm 0 f bytes) (both _ _ (operand_formed bits row state t imm 1 f bytes)
    (both _ _ (operand_formed bits row state t imm 2 f bytes) (operand_formed bits row state t imm 3 f bytes)))

-- the ranges of a fitting spelling's fields
record Ranges (s : Spelling) : Type 0 where
  vex : vex_in_range s.vex ≡ true
  imm : are_bytes s.imm.items ≡ true

ranges : (s : Spelling) → fields_in_range s ≡ true → Ranges s
unfolding fields_in_range
ranges s h =
    let bytes = are_bytes s.disp.items && are_bytes s.imm.items in
    let r1 = modrm_in_range s.modrm && (sib_in_range s.sib && bytes) in
    let r2 = (and_parts (are_bytes s.prefixes.items) (vex_in_range s.vex && (nat_lt s.opcode 256 && r1)) h).1 in
    let r3 = (and_parts (nat_lt s.opcode 256) r1 (and_parts (vex_in_range s.vex) (nat_lt s.opcode 256 && r1) r2).1).1 in
    let r4 = (and_parts (sib_in_range s.sib) bytes (and_parts (modrm_in_range s.modrm) (sib_in_range s.sib && bytes) r3).1).1 in
    record {
      vex = (and_parts (vex_in_range s.vex) (nat_lt s.opcode 256 && r1) r2).0;
      imm = (and_parts (are_bytes s.disp.items) (are_bytes s.imm.items) r4).1;
    }

place_part : (row : Row) (opcode : ℕ) (m : Option ModRm) → opcode_and_modrm_fit row opcode m ≡ true → place_fits row m ≡ true
unfolding opcode_and_modrm_fit
place_part row opcode m h =
    (and_parts (modrm_rule_fits row.plus row.modrm m) (place_fits row m) (and_parts (opcode_fits row opcode) (modrm_rule_fits row.plus row.modrm m && place_fits row m) h).1).1

registers_part : (bits : Bits) (row : Row) (state : PrefixState) (m : Option ModRm) (sib : Option Sib) → registers_fit bits row state m sib ≡ true → list_all (register_fits bits state m) row.ops ≡ true
unfolding registers_fit
registers_part bits row state m sib h = (and_parts (list_all (register_fits bits state m) row.ops) _ h).0

one_rm : (row : Row) → operands_are_apart row ≡ true → at_most_one reads_rm row ≡ true
unfolding operands_are_apart
one_rm row h = (and_parts (at_most_one reads_rm row) _ (and_parts (at_most_one reads_reg row) _ h).1).0

absent_reads : (p : Method → Bool) → p Nothing ≡ false → p (method_of Absent) ≡ false
unfolding method_of
absent_reads p h = h

read_by : (p : Method → Bool) (row : Row) (n : ℕ) → p Nothing ≡ false → p (method_of (kind_at row n)) ≡ true → reads_by p row ≡ true
read_by p row n none h = any_at (λ kind. p (method_of kind)) row.ops n (absent_reads p none) h

facts : (bits : Bits) (row : Row) (s : Spelling) → Sound row → Fits bits row s → OperandFacts bits row (state_of bits row s) s.modrm s.sib
unfolding state_of state_from
facts bits row s sound_row f =
    let there = λ (h : (reads_by reads_reg row ≡ true) ⊎ (reads_by reads_rm row ≡ true)). modrm_there row s.opcode s.modrm f.opcode (reg_rule row sound_row.operands h) in
    record {
      modrm_range = modrm_range s f.ranges;
      sib_range = sib_range s f.ranges;
      vex_range = (ranges s f.ranges).vex;
      place = place_part row s.opcode s.modrm f.opcode;
      registers = registers_part bits row (state_of bits row s) s.modrm s.sib f.registers;
      byte = λ n file. no_vex bits row s.prefixes.items s.vex s.opcode s.modrm f.vex (byte_is_legacy row n sound_row.kind file);
      reg = λ n h. there (inl (read_by reads_reg row n refl h));
      rm = λ n h. there (inr (read_by reads_rm row n refl h));
      gather = λ n h. gather_sib bits row (state_of bits row s) s.modrm s.sib (length s.disp.items) (length s.imm.items)
          (read_by is_gather row n refl h) (one_rm row sound_row.apart) f.lengths f.registers;
    }

-- **what a fitting spelling of a sound row means has the form of the row**
pub meaning_formed : (bits : Bits) (ip : ℕ) (code : Code) (row : Row) (s : Spelling) → sound row ≡ true → fits bits row s ≡ true → is_formed row (meaning bits ip code row s) ≡ true
unfolding meaning
meaning_formed bits ip code row s proper fit =
    let f = all_conditions bits row s fit in
    instruction_formed bits code row (state_of bits row s) (tail_of bits ip row s) s.imm.items (facts bits row s (sound_conditions row proper) f) (ranges s f.ranges).imm

-- an instruction that a row of the table reads is well formed
pub read_is_well_formed : (bits : Bits) (ip : ℕ) (code : Code) (row : Row) (bytes : List ℕ) (d : Decoded) → slice_get table code.0 ≡ Some row → sound row ≡ true → RowReads bits ip code row bytes d → is_well_formed d.instr ≡ true
read_is_well_formed bits ip code row bytes d there proper r =
    let formed = meaning_formed bits ip code row r.spelling proper r.fitting in
    let same_code : d.instr.code ≡ code = ap (λ (i : Instr). i.code) (sym r.means) ∙ meaning_code bits ip code row r.spelling in
    let found : slice_get table d.instr.code.0 ≡ Some row = subst (λ (c : Code). slice_get table c.0 ≡ Some row) (sym same_code) there in
    well_formed-at d.instr row found ∙ ap (is_formed row) (sym r.means) ∙ formed
