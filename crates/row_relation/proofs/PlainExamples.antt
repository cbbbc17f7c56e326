-- Examples: spellings that are plain, and fitting ones that are not, each by the test that says so.
use Rattle.std.proofs.Common.{◌≡◌, ℕ, ◌==◌, Bool, true, false, ◌&&◌, List, [], ◌∷◌, refl, Option, Some, None, replicate}
use Rattle.arrayvec.specs.ArrayVec.{ArrayVec}
use Rattle.x86_values.specs.declared.Bits.{Bits}
use Rattle.x86_values.specs.declared.Bits.TheVariants.{B16, B64}
use Rattle.instruction_parts.specs.declared.row_types.Row.{Row}
use Rattle.instruction_parts.specs.RowTypes.Rows.{row}
use Rattle.instruction_parts.specs.declared.row_types.RowKind.TheVariants.{Legacy as LegacyRow, Vex as VexRow}
use Rattle.instruction_parts.specs.declared.row_types.Map.TheVariants.{One as MapOne, M0f}
use Rattle.instruction_parts.specs.declared.row_types.Class.TheVariants.{Any as AnyClass, Np}
use Rattle.instruction_parts.specs.declared.row_types.Plus.TheVariants.{No as NoPlus}
use Rattle.instruction_parts.specs.declared.row_types.ModRmRule.TheVariants.{Any as AnyModRm}
use Rattle.instruction_parts.specs.declared.row_types.Place.TheVariants.{Any as AnyPlace}
use Rattle.instruction_parts.specs.declared.row_types.Size.TheVariants.{None as NoSize, O32}
use Rattle.instruction_parts.specs.declared.row_types.WBit.TheVariants.{None as NoW, Wig}
use Rattle.instruction_parts.specs.declared.row_types.LBit.TheVariants.{None as NoL, L128}
use Rattle.instruction_parts.specs.declared.row_types.OpKind.TheVariants.{Eb as KEb, Ev as KEv, Gb as KGb, Gv as KGv, Vx as KVx, Hx as KHx, Wx as KWx, Absent as KAbsent}
use Rattle.instruction_parts.specs.declared.spelling.ModRm.{ModRm}
use Rattle.instruction_parts.specs.declared.spelling.Sib.{Sib}
use Rattle.instruction_parts.specs.declared.spelling.Spelling.{Spelling}
use Rattle.instruction_parts.specs.Bytes.{bytes_of, vex_bytes, vex_last_byte, vex_map_byte, lead_bytes, tail_bytes, front_bytes, state_from, state_of}
use Rattle.instruction_parts.specs.Kinds.{method_of, file_of, immediate_width, fixed_number}
use Rattle.instruction_parts.specs.Counting.{is_segment, is_legacy_prefix, is_prefix, has_lock, has_66, has_67, counting_repeat, segment_named, counting_segment, counting_rex}
use Rattle.instruction_parts.specs.Sizes.{shared_bit, exists_in, operand_size, address_size, bit_r, bit_x, bit_b, bit_w, state_size}
use Rattle.instruction_parts.specs.Front.{forbids_vex}
use Rattle.row_fit.specs.Fits.{fits, reads_mode, reg_number, rm_number, vvvv_number, index_number, prefixes_fit, legacy_class_fits, vex_class_fits, class_fits, is_vex_of_mode, is_opcode, opcode_allows, opcode_is_kept, vex_fits, opcode_fits, modrm_rule_fits, place_allows, place_fits, opcode_and_modrm_fit, size_fits, w_fits, l_fits, sizes_fit, vvvv_fits, needs_sib, is_displacement_alone, displacement_bytes, address_fits, immediate_bytes, immediates_bytes, lengths_fit, is_memory_method, lock_fits, is_control_number, register_fits, destination_fits, gather_fits, nop_fits, registers_fit, vex_in_range, modrm_in_range, sib_in_range, fields_in_range, tail_fits, state_fits}
use Rattle.row_meaning.specs.Meaning.{meaning, little_endian, sign_extended, segment_numbered, general_register, byte_register, vector, register_of, disp_size_of, base_16, index_16, memory_16, ip_or_absolute, sib_base, sib_index, memory_with_sib, memory_at_base, memory_wide, memory_of, memory_absolute, gather_memory, last_byte_number, near_target, far_pointer, memory_operand, operand_by, immediates_before, own_immediate, operand_at, kept_repeat, has_memory, kept_address_size, instr_of}
use Rattle.plain_spelling.specs.PlainFront.{register_number, is_low_byte_of_rex}
use Rattle.row_relation.specs.IsPlain.{needs_66, needed_repeat, needed_by, needs_w, rex_is_needed, vex_is_short, l_is_needed, vvvv_is_read, reg_is_read, lone_is_zero, rm_is_read, mode_is_register, has_index, sib_is_needed, scale_is_read, last_byte_is_read, immediates_are_read, meant_operands, only_if, needs_r, needs_x, needs_b, needed_prefixes}

-- one name for all definitions that an example computes with: a proof that unfolds it computes with each of them
unfoldable every_rule : Unit {0}
unfolding bytes_of vex_bytes vex_last_byte vex_map_byte lead_bytes tail_bytes front_bytes state_from state_of method_of file_of immediate_width fixed_number is_segment is_legacy_prefix is_prefix has_lock has_66 has_67 counting_repeat segment_named counting_segment counting_rex exists_in operand_size address_size bit_r bit_x bit_b bit_w state_size forbids_vex fits reads_mode reg_number rm_number vvvv_number index_number prefixes_fit legacy_class_fits vex_class_fits class_fits is_vex_of_mode is_opcode opcode_allows opcode_is_kept vex_fits opcode_fits modrm_rule_fits place_allows place_fits opcode_and_modrm_fit size_fits w_fits l_fits sizes_fit vvvv_fits needs_sib is_displacement_alone displacement_bytes address_fits immediate_bytes immediates_bytes lengths_fit is_memory_method lock_fits is_control_number register_fits destination_fits gather_fits nop_fits registers_fit vex_in_range modrm_in_range sib_in_range fields_in_range tail_fits state_fits meaning little_endian sign_extended segment_numbered general_register byte_register vector register_of disp_size_of base_16 index_16 memory_16 ip_or_absolute sib_base sib_index memory_with_sib memory_at_base memory_wide memory_of memory_absolute gather_memory last_byte_number near_target far_pointer memory_operand operand_by immediates_before own_immediate operand_at kept_repeat has_memory kept_address_size instr_of register_number is_low_byte_of_rex needs_66 needed_repeat needed_by needs_w rex_is_needed vex_is_short l_is_needed vvvv_is_read reg_is_read lone_is_zero rm_is_read mode_is_register has_index sib_is_needed scale_is_read last_byte_is_read immediates_are_read
every_rule = tt

-- ADD r/m32, r32; MOV r/m8, r8; VADDPS xmm, xmm, xmm/m128
abbrev add : Row
add = row LegacyRow MapOne AnyClass 0x01 NoPlus AnyModRm AnyPlace O32 NoW NoL 7 KEv KGv KAbsent KAbsent 1

abbrev mov : Row
mov = row LegacyRow MapOne AnyClass 0x88 NoPlus AnyModRm AnyPlace NoSize NoW NoL 7 KEb KGb KAbsent KAbsent 0

abbrev vaddps : Row
vaddps = row VexRow M0f Np 0x58 NoPlus AnyModRm AnyPlace NoSize Wig L128 7 KVx KHx KWx KAbsent 0

abbrev listed : List ℕ → ArrayVec ℕ
listed bytes = record { items = bytes }

abbrev legacy : List ℕ → ℕ → ModRm → Option Sib → Spelling
legacy prefixes opcode modrm sib =
    record { prefixes = listed prefixes; vex = None; opcode = opcode; modrm = Some modrm; sib = sib; disp = listed []; imm = listed [] }

abbrev modrm : ℕ → ℕ → ℕ → ModRm
modrm mode3 reg rm = record { mode3 = mode3; reg = reg; rm = rm }

abbrev sib : ℕ → ℕ → ℕ → Option Sib
sib scale index base = Some (record { scale = scale; index = index; base = base })

abbrev vex : Bool → Bool → Bool → Spelling
vex three w l = record {
  prefixes = listed [];
  vex = Some (record { three = three; r = false; x = false; b = false; w = w; l = l; map = M0f; vvvv = 0; pp = 0 });
  opcode = 0x58;
  modrm = Some (modrm 3 0 1);
  sib = None;
  disp = listed [];
  imm = listed [];
}

abbrev same_list : List ℕ → List ℕ → Bool
same_list [] [] = true
same_list (a ∷ x) (b ∷ y) = a == b && same_list x y
same_list _ _ = false

-- all tests of a plain spelling at address 0
abbrev plain : Bits → Row → Spelling → Bool
plain bits row s =
    let st = state_of bits row s in
    let ops = meant_operands bits 0 row s in
    same_list s.prefixes.items (needed_prefixes bits row s)
    && (rex_is_needed st.rex ops && (only_if (needs_w row) (shared_bit (λ v. v.w) 3 st) && (only_if (needs_r row ops) (bit_r st)
    && (only_if (needs_x row ops) (bit_x st) && (only_if (needs_b row ops) (shared_bit (λ v. v.b) 0 st)
    && (vex_is_short s.vex && (l_is_needed row s.vex && (vvvv_is_read bits s.vex && (reg_is_read row s.modrm && (rm_is_read row s.modrm
    && (mode_is_register row s.modrm && (sib_is_needed bits row st s.modrm s.sib && (scale_is_read row st s.sib && immediates_are_read bits row s)))))))))))))

-- whether a spelling fits, and is plain
abbrev verdict : Bits → Row → Spelling → List Bool
verdict bits row s = fits bits row s ∷ plain bits row s ∷ []

-- spellings that fit and are plain
abbrev plain_ones : List (List Bool)
plain_ones =
    -- 01 C0
    verdict B64 add (legacy [] 0x01 (modrm 3 0 0) None) ∷
    -- 66 01 C0 in 16-bit mode
    verdict B16 add (legacy (0x66 ∷ []) 0x01 (modrm 3 0 0) None) ∷
    -- 67 88 00
    verdict B64 mov (legacy (0x67 ∷ []) 0x88 (modrm 0 0 0) None) ∷
    -- 64 F0 01 00
    verdict B64 add (legacy (0x64 ∷ 0xF0 ∷ []) 0x01 (modrm 0 0 0) None) ∷
    -- 40 88 E0
    verdict B64 mov (legacy (0x40 ∷ []) 0x88 (modrm 3 4 0) None) ∷
    -- 41 01 C0
    verdict B64 add (legacy (0x41 ∷ []) 0x01 (modrm 3 0 0) None) ∷
    -- C5 F8 58 C1
    verdict B64 vaddps (vex false false false) ∷
    -- 01 04 24
    verdict B64 add (legacy [] 0x01 (modrm 0 0 4) (sib 0 4 4)) ∷
    []

plain_ones-hold : plain_ones ≡ replicate 8 (true ∷ true ∷ [])
unfolding every_rule
plain_ones-hold = refl

-- spellings that fit and are not plain
abbrev longer_ones : List (List Bool)
longer_ones =
    -- 66 88 C0
    verdict B64 mov (legacy (0x66 ∷ []) 0x88 (modrm 3 0 0) None) ∷
    -- 67 88 C0, which has no address
    verdict B64 mov (legacy (0x67 ∷ []) 0x88 (modrm 3 0 0) None) ∷
    -- F0 64 01 00
    verdict B64 add (legacy (0xF0 ∷ 0x64 ∷ []) 0x01 (modrm 0 0 0) None) ∷
    -- F0 F0 01 00
    verdict B64 add (legacy (0xF0 ∷ 0xF0 ∷ []) 0x01 (modrm 0 0 0) None) ∷
    -- 3E 64 01 00
    verdict B64 add (legacy (0x3E ∷ 0x64 ∷ []) 0x01 (modrm 0 0 0) None) ∷
    -- 40 88 C0
    verdict B64 mov (legacy (0x40 ∷ []) 0x88 (modrm 3 0 0) None) ∷
    -- 42 88 E0, whose X nothing reads
    verdict B64 mov (legacy (0x42 ∷ []) 0x88 (modrm 3 4 0) None) ∷
    -- C4 E1 78 58 C1
    verdict B64 vaddps (vex true false false) ∷
    -- C4 E1 F8 58 C1, whose W nothing reads
    verdict B64 vaddps (vex true true false) ∷
    -- 01 04 20
    verdict B64 add (legacy [] 0x01 (modrm 0 0 4) (sib 0 4 0)) ∷
    -- 01 04 64
    verdict B64 add (legacy [] 0x01 (modrm 0 0 4) (sib 1 4 4)) ∷
    []

longer_ones-hold : longer_ones ≡ replicate 11 (true ∷ false ∷ [])
unfolding every_rule
longer_ones-hold = refl
