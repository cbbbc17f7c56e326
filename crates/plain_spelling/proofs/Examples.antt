-- Examples of plain spellings and of the first condition that fails, each proved by computing; their values come from outside.
use Rattle.std.proofs.Common.{◌≡◌, ℕ, Bool, true, false, List, [], ◌∷◌, refl, Option, Some, None}
use Rattle.x86_values.specs.declared.Bits.{Bits}
use Rattle.x86_values.specs.declared.Bits.TheVariants.{B16, B32, B64}
use Rattle.x86_values.specs.declared.Segment.{Segment}
use Rattle.x86_values.specs.declared.Segment.TheVariants.{Cs as SCs, Fs as SFs}
use Rattle.x86_values.specs.declared.Register.{Register}
use Rattle.x86_values.specs.declared.Register.TheVariants.{Low8, High8, R16, R32, R64, Seg, Xmm, Rip}
use Rattle.x86_values.specs.declared.DispSize.{DispSize}
use Rattle.x86_values.specs.declared.DispSize.TheVariants.{D0, D8, D32}
use Rattle.x86_values.specs.declared.Operand.{Operand}
use Rattle.x86_values.specs.declared.Operand.TheVariants.{Absent as NoOperand, Reg, Mem as MemOperand, Imm, Near}
use Rattle.x86_values.specs.declared.Rep.{Rep}
use Rattle.x86_values.specs.declared.Rep.TheVariants.{None as NoRep, F2 as RepF2}
use Rattle.x86_values.specs.declared.Instr.{Instr}
use Rattle.instruction_parts.specs.declared.row_types.Row.{Row}
use Rattle.instruction_parts.specs.RowTypes.Rows.{row}
use Rattle.instruction_parts.specs.declared.row_types.RowKind.TheVariants.{Legacy as LegacyRow, Vex as VexRow}
use Rattle.instruction_parts.specs.declared.row_types.Map.TheVariants.{One as MapOne, M0f, M0f38}
use Rattle.instruction_parts.specs.declared.row_types.Class.TheVariants.{Any as AnyClass, Np, P66}
use Rattle.instruction_parts.specs.declared.row_types.Plus.TheVariants.{No as NoPlus}
use Rattle.instruction_parts.specs.declared.row_types.ModRmRule.TheVariants.{No as NoModRm, Any as AnyModRm, Digit}
use Rattle.instruction_parts.specs.declared.row_types.Place.TheVariants.{Any as AnyPlace, Memory as OnlyMemory}
use Rattle.instruction_parts.specs.declared.row_types.Size.TheVariants.{None as NoSize, O16, O32, O64}
use Rattle.instruction_parts.specs.declared.row_types.WBit.TheVariants.{None as NoW, W0, Wig}
use Rattle.instruction_parts.specs.declared.row_types.LBit.TheVariants.{None as NoL, L128}
use Rattle.instruction_parts.specs.declared.row_types.OpKind.TheVariants.{Eb as KEb, Ev as KEv, Gb as KGb, Gv as KGv, Vx as KVx, Hx as KHx, Wx as KWx, GatherL as KGatherL, Ibs as KIbs, Jb as KJb, Absent as KAbsent}
use Rattle.plain_spelling.specs.declared.NoSpelling.{NoSpelling}
use Rattle.plain_spelling.specs.declared.NoSpelling.TheVariants as cause
use Rattle.instruction_parts.specs.Bytes.{bytes_of, vex_bytes, vex_last_byte, vex_map_byte, lead_bytes, tail_bytes, front_bytes, bytes_of, state_from, state_of}
use Rattle.instruction_parts.specs.Kinds.{method_of, file_of, immediate_width, fixed_number}
use Rattle.instruction_parts.specs.Counting.{is_segment, is_legacy_prefix, is_prefix, has_lock, has_66, has_67, counting_repeat, segment_named, counting_segment, counting_rex}
use Rattle.instruction_parts.specs.Sizes.{exists_in, operand_size, address_size, bit_r, bit_x, bit_b, bit_w, state_size}
use Rattle.instruction_parts.specs.Front.{forbids_vex}
use Rattle.row_fit.specs.Fits.{fits, reads_mode, reg_number, rm_number, vvvv_number, index_number, prefixes_fit, legacy_class_fits, vex_class_fits, class_fits, is_vex_of_mode, is_opcode, opcode_allows, opcode_is_kept, vex_fits, opcode_fits, modrm_rule_fits, place_allows, place_fits, opcode_and_modrm_fit, size_fits, w_fits, l_fits, sizes_fit, vvvv_fits, needs_sib, is_displacement_alone, displacement_bytes, address_fits, immediate_bytes, immediates_bytes, lengths_fit, is_memory_method, lock_fits, is_control_number, register_fits, destination_fits, gather_fits, nop_fits, registers_fit, vex_in_range, modrm_in_range, sib_in_range, fields_in_range, tail_fits, state_fits}
use Rattle.row_meaning.specs.Meaning.{meaning, little_endian, sign_extended, segment_numbered, general_register, byte_register, vector, register_of, disp_size_of, base_16, index_16, memory_16, ip_or_absolute, sib_base, sib_index, memory_with_sib, memory_at_base, memory_wide, memory_of, memory_absolute, gather_memory, last_byte_number, near_target, far_pointer, memory_operand, operand_by, immediates_before, own_immediate, operand_at, kept_repeat, has_memory, kept_address_size, instr_of}
use Rattle.plain_spelling.specs.Values.{low_bytes, is_extended_of, distance}
use Rattle.plain_spelling.specs.Forms.{is_allowed_in, is_variant_of}
use Rattle.x86_values.specs.Comparing.{same_register}
use Rattle.plain_spelling.specs.PlainFront.{register_number, is_low_byte_of_rex, number_in_reg, number_in_rm, number_in_index, number_in_vvvv, number_in_opcode, asks_r, asks_x, asks_b, asks_rex_w, asks_vex_w, asks_66, asks_67, asked_repeat, asked_rex, class_pp, asked_vex, asked_opcode, asked_used, plain_front_of}
use Rattle.plain_spelling.specs.Addresses.{register_count, has_address_size, general_size, pointer_size, shown_size, written_size, form_of, rm_of_one, rm_of_two, rm_of_short, is_address_register, is_base, is_index, scale_suits, is_wide_size, is_wide_shape, is_shape, index_named, is_vector_index, is_gather_base, is_gather_shape, shape_suits, displacement_count, wide_offers, short_offers, form_offers, offers, is_displacement, displacement_suits, mode_of_count, scale_field, base_bits, index_bits, plain_sib, wide_needs_sib, wide_fields, alone_fields, address_fields}
use Rattle.plain_spelling.specs.PlainTail.{prefixes_of, plain_size, rm_fields, fixed_rm, plain_modrm, plain_sib_of, displacement_of, operand_immediate, immediate_at, plain_immediates, plain_len, plain_next, plain_spelling}
use Rattle.plain_spelling.specs.Expressible.{kind_suits, exists_in_mode, is_of_kind, is_not_nop, kind_allows, is_nameable, vector_in_reg, vector_in_index, vector_in_vvvv, gather_numbers_differ, register_suits, address_suits, displacement_offered, immediate_suits_how, immediate_suits, near_reaches, address_reaches, target_suits, lock_suits, repeat_suits, prefixes_suit, has_memory_operand, told_size, size_agrees, is_size_of, address_size_suits, first_failing, first_failed_condition, failure}

-- one name for all definitions that an example computes with: a proof that unfolds it computes with each of them
unfoldable every_rule : Unit {0}
unfolding forbids_vex failure first_failed_condition first_failing kind_suits is_variant_of is_allowed_in method_of exists_in file_of immediate_width fixed_number is_segment is_legacy_prefix is_prefix has_lock has_66 has_67 counting_repeat segment_named counting_segment counting_rex operand_size address_size bit_r bit_x bit_b bit_w state_size vex_last_byte vex_map_byte vex_bytes lead_bytes tail_bytes front_bytes bytes_of state_from state_of fits reads_mode reg_number rm_number vvvv_number index_number prefixes_fit legacy_class_fits vex_class_fits class_fits is_vex_of_mode is_opcode opcode_allows opcode_is_kept vex_fits opcode_fits modrm_rule_fits place_allows place_fits opcode_and_modrm_fit size_fits w_fits l_fits sizes_fit vvvv_fits needs_sib is_displacement_alone displacement_bytes address_fits immediate_bytes immediates_bytes lengths_fit is_memory_method lock_fits is_control_number register_fits destination_fits gather_fits nop_fits registers_fit vex_in_range modrm_in_range sib_in_range fields_in_range tail_fits state_fits meaning little_endian sign_extended segment_numbered general_register byte_register vector register_of disp_size_of base_16 index_16 memory_16 ip_or_absolute sib_base sib_index memory_with_sib memory_at_base memory_wide memory_of memory_absolute gather_memory last_byte_number near_target far_pointer memory_operand operand_by immediates_before own_immediate operand_at kept_repeat has_memory kept_address_size instr_of low_bytes is_extended_of distance same_register register_number is_low_byte_of_rex number_in_reg number_in_rm number_in_index number_in_vvvv number_in_opcode asks_r asks_x asks_b asks_rex_w asks_vex_w asks_66 asks_67 asked_repeat asked_rex class_pp asked_vex asked_opcode asked_used plain_front_of register_count has_address_size general_size pointer_size shown_size written_size form_of rm_of_one rm_of_two rm_of_short is_address_register is_base is_index scale_suits is_wide_size is_wide_shape is_shape index_named is_vector_index is_gather_base is_gather_shape shape_suits displacement_count wide_offers short_offers form_offers offers is_displacement displacement_suits mode_of_count scale_field base_bits index_bits plain_sib wide_needs_sib wide_fields alone_fields address_fields prefixes_of plain_size rm_fields fixed_rm plain_modrm plain_sib_of displacement_of operand_immediate immediate_at plain_immediates plain_len plain_next plain_spelling exists_in_mode is_of_kind is_not_nop kind_allows is_nameable gather_numbers_differ register_suits address_suits displacement_offered immediate_suits_how immediate_suits near_reaches address_reaches target_suits lock_suits repeat_suits prefixes_suit has_memory_operand told_size size_agrees is_size_of address_size_suits vector_in_index vector_in_reg vector_in_vvvv
every_rule = tt

-- a memory operand by its base, index, scale, displacement and displacement size
abbrev pub memory : Option Register → Option Register → ℕ → ℕ → DispSize → Operand
memory base index scale disp disp_size =
    MemOperand (record { base = base; index = index; scale = scale; disp = disp; disp_size = disp_size })

-- an instruction by its operands and prefixes
abbrev pub instr : Operand → Operand → Operand → Operand → Bool → Rep → Option Segment → Option Bits → Instr
instr a b c d lock rep seg asize = record {
  code = record { 0 = 0 };
  ops = a ∷ b ∷ c ∷ d ∷ [];
  lock = lock;
  rep = rep;
  seg = seg;
  asize = asize;
}

-- an instruction of two operands without prefixes
abbrev pub two : Operand → Operand → Option Bits → Instr
two a b asize = instr a b NoOperand NoOperand false NoRep None asize

-- what an instruction of a row gives: the cause, or else the bytes, whether they fit, and what they mean
pub data Outcome : Type 0 where
  Refused : NoSpelling → Outcome
  Written : List ℕ → Bool → Instr → Outcome

-- the bytes of an instruction, or its first failing condition
abbrev pub outcome_by : Bits → ℕ → Row → Instr → Option NoSpelling → Outcome
outcome_by bits ip row i (Some why) = Refused why
outcome_by bits ip row i None =
    Written (bytes_of row (plain_spelling bits ip row i)) (fits bits row (plain_spelling bits ip row i)) (meaning bits ip (record { 0 = 0 }) row (plain_spelling bits ip row i))

-- the same, with the condition computed
abbrev pub outcome : Bits → ℕ → Row → Instr → Outcome
outcome bits ip row i = outcome_by bits ip row i (failure bits ip row i)

-- ADD r/m32, r32
abbrev pub add_o32 : Row
add_o32 = row LegacyRow MapOne AnyClass 0x01 NoPlus AnyModRm AnyPlace O32 NoW NoL 7 KEv KGv KAbsent KAbsent 1

-- ADD r/m16, r16
abbrev pub add_o16 : Row
add_o16 = row LegacyRow MapOne AnyClass 0x01 NoPlus AnyModRm AnyPlace O16 NoW NoL 7 KEv KGv KAbsent KAbsent 1

-- ADD r/m64, r64
abbrev pub add_o64 : Row
add_o64 = row LegacyRow MapOne AnyClass 0x01 NoPlus AnyModRm AnyPlace O64 NoW NoL 4 KEv KGv KAbsent KAbsent 1

-- ADD r/m32, imm8
abbrev pub add_ibs : Row
add_ibs = row LegacyRow MapOne AnyClass 0x83 NoPlus (Digit 0) AnyPlace O32 NoW NoL 7 KEv KIbs KAbsent KAbsent 1

-- MOV r/m8, r8
abbrev pub mov_byte : Row
mov_byte = row LegacyRow MapOne AnyClass 0x88 NoPlus AnyModRm AnyPlace NoSize NoW NoL 7 KEb KGb KAbsent KAbsent 0

-- JMP rel8
abbrev pub jmp_short : Row
jmp_short = row LegacyRow MapOne AnyClass 0xEB NoPlus NoModRm AnyPlace O64 NoW NoL 4 KJb KAbsent KAbsent KAbsent 20

-- VADDPS xmm, xmm, xmm/m128
abbrev pub vaddps : Row
vaddps = row VexRow M0f Np 0x58 NoPlus AnyModRm AnyPlace NoSize Wig L128 7 KVx KHx KWx KAbsent 0

-- VGATHERDPS xmm, vm32x, xmm
abbrev pub vgatherdps : Row
vgatherdps = row VexRow M0f38 P66 0x92 NoPlus AnyModRm OnlyMemory NoSize W0 L128 7 KVx KGatherL KHx KAbsent 0

-- the operand EAX
abbrev pub eax : Operand
eax = Reg (R32 0)

absent_second : outcome B64 0 add_o32 (two eax NoOperand None) ≡ Refused (cause.OperandKind 1)
unfolding every_rule
absent_second = refl

ah_with_spl : outcome B64 0 mov_byte (two (Reg (High8 0)) (Reg (Low8 4)) None) ≡ Refused (cause.Register 0)
unfolding every_rule
ah_with_spl = refl

scale_three : outcome B64 0 add_o32 (two (memory (Some (R64 0)) (Some (R64 1)) 3 0 D0) eax (Some B64)) ≡ Refused cause.Memory
unfolding every_rule
scale_three = refl

disp8_of_80 : outcome B64 0 add_o32 (two (memory (Some (R64 0)) None 1 0x80 D8) eax (Some B64)) ≡ Refused cause.Displacement
unfolding every_rule
disp8_of_80 = refl

imm_80 : outcome B64 0 add_ibs (two eax (Imm 0x80) None) ≡ Refused (cause.Immediate 1)
unfolding every_rule
imm_80 = refl

imm_ffffff80 : outcome B64 0 add_ibs (two eax (Imm 0xFFFFFF80) None) ≡ Written (0x83 ∷ 0xC0 ∷ 0x80 ∷ []) true (two eax (Imm 0xFFFFFF80) None)
unfolding every_rule
imm_ffffff80 = refl

lock_registers : outcome B64 0 add_o32 (instr eax eax NoOperand NoOperand true NoRep None None) ≡ Refused cause.Prefix
unfolding every_rule
lock_registers = refl

no_asize : outcome B64 0 add_o32 (two (memory (Some (R64 0)) None 1 0 D0) eax None) ≡ Refused cause.AddressSize
unfolding every_rule
no_asize = refl

rsp_r12 : outcome B64 0 add_o64 (two (memory (Some (R64 4)) (Some (R64 12)) 4 0x10 D8) (Reg (R64 9)) (Some B64)) ≡ Written (0x4E ∷ 0x01 ∷ 0x4C ∷ 0xA4 ∷ 0x10 ∷ []) true (two (memory (Some (R64 4)) (Some (R64 12)) 4 0x10 D8) (Reg (R64 9)) (Some B64))
unfolding every_rule
rsp_r12 = refl

rip : outcome B64 4096 add_o64 (two (memory (Some Rip) None 1 0x1007 D32) (Reg (R64 0)) (Some B64)) ≡ Written (0x48 ∷ 0x01 ∷ 0x05 ∷ 0x00 ∷ 0x00 ∷ 0x00 ∷ 0x00 ∷ []) true (two (memory (Some Rip) None 1 0x1007 D32) (Reg (R64 0)) (Some B64))
unfolding every_rule
rip = refl

abs64 : outcome B64 0 add_o32 (two (memory None None 1 0x1000 D32) eax (Some B64)) ≡ Written (0x01 ∷ 0x04 ∷ 0x25 ∷ 0x00 ∷ 0x10 ∷ 0x00 ∷ 0x00 ∷ []) true (two (memory None None 1 0x1000 D32) eax (Some B64))
unfolding every_rule
abs64 = refl

abs32 : outcome B32 0 add_o32 (two (memory None None 1 0x1000 D32) eax (Some B32)) ≡ Written (0x01 ∷ 0x05 ∷ 0x00 ∷ 0x10 ∷ 0x00 ∷ 0x00 ∷ []) true (two (memory None None 1 0x1000 D32) eax (Some B32))
unfolding every_rule
abs32 = refl

bp16 : outcome B32 0 add_o16 (two (memory (Some (R16 5)) (Some (R16 7)) 1 0xFFFE D8) (Reg (R16 3)) (Some B16)) ≡ Written (0x66 ∷ 0x67 ∷ 0x01 ∷ 0x5B ∷ 0xFE ∷ []) true (two (memory (Some (R16 5)) (Some (R16 7)) 1 0xFFFE D8) (Reg (R16 3)) (Some B16))
unfolding every_rule
bp16 = refl

lock_fs : outcome B64 0 add_o32 (instr (memory (Some (R64 13)) None 1 0 D8) (Reg (R32 8)) NoOperand NoOperand true RepF2 (Some SFs) (Some B64)) ≡ Written (0x64 ∷ 0xF0 ∷ 0xF2 ∷ 0x45 ∷ 0x01 ∷ 0x45 ∷ 0x00 ∷ []) true (instr (memory (Some (R64 13)) None 1 0 D8) (Reg (R32 8)) NoOperand NoOperand true RepF2 (Some SFs) (Some B64))
unfolding every_rule
lock_fs = refl

vaddps2 : outcome B64 0 vaddps (instr (Reg (Xmm 0)) (Reg (Xmm 0)) (Reg (Xmm 1)) NoOperand false NoRep None None) ≡ Written (0xC5 ∷ 0xF8 ∷ 0x58 ∷ 0xC1 ∷ []) true (instr (Reg (Xmm 0)) (Reg (Xmm 0)) (Reg (Xmm 1)) NoOperand false NoRep None None)
unfolding every_rule
vaddps2 = refl

vaddps3 : outcome B64 0 vaddps (instr (Reg (Xmm 0)) (Reg (Xmm 0)) (Reg (Xmm 9)) NoOperand false NoRep None None) ≡ Written (0xC4 ∷ 0xC1 ∷ 0x78 ∷ 0x58 ∷ 0xC1 ∷ []) true (instr (Reg (Xmm 0)) (Reg (Xmm 0)) (Reg (Xmm 9)) NoOperand false NoRep None None)
unfolding every_rule
vaddps3 = refl

jmp_back : outcome B64 4096 jmp_short (instr (Near 0x1000) NoOperand NoOperand NoOperand false NoRep None None) ≡ Written (0xEB ∷ 0xFE ∷ []) true (instr (Near 0x1000) NoOperand NoOperand NoOperand false NoRep None None)
unfolding every_rule
jmp_back = refl

jmp_far : outcome B64 0 jmp_short (instr (Near 0x82) NoOperand NoOperand NoOperand false NoRep None None) ≡ Refused cause.Target
unfolding every_rule
jmp_far = refl

-- VGATHERDPS of an XMM register at RAX with an index, and a mask
abbrev pub gather_of : ℕ → Option Register → Register → Instr
gather_of destination index mask =
    instr (Reg (Xmm destination)) (memory (Some (R64 0)) index 1 0 D0) (Reg mask) NoOperand false NoRep None (Some B64)

-- a gather by its index number, base and mask
abbrev pub gather : ℕ → Option Register → Register → Outcome
gather destination index mask = outcome B64 0 vgatherdps (gather_of destination index mask)

-- an index that is no vector register fails as the address
gather_index : (gather 0 None (Xmm 1) ∷ gather 0 (Some (R64 1)) (Xmm 1) ∷ []) ≡ (Refused cause.Memory ∷ Refused cause.Memory ∷ [])
unfolding every_rule
gather_index = refl

-- a mask that is none, or that is not of the mode, fails as its own operand, whatever the destination
gather_mask : (gather 0 (Some (Xmm 2)) Rip ∷ gather 1 (Some (Xmm 2)) (Seg SCs) ∷ gather 4 (Some (Xmm 2)) (High8 0) ∷ gather 3 (Some (Xmm 2)) Rip ∷ gather 0 None (Xmm 16) ∷ [])
    ≡ (Refused (cause.Register 2) ∷ Refused (cause.Register 2) ∷ Refused (cause.Register 2) ∷ Refused (cause.Register 2) ∷ Refused (cause.Register 2) ∷ [])
unfolding every_rule
gather_mask = refl

-- of vector registers the numbers are compared, as operand 0
gather_numbers : (gather 2 (Some (Xmm 2)) (Xmm 1) ∷ gather 1 (Some (Xmm 2)) (Xmm 1) ∷ gather 0 (Some (Xmm 1)) (Xmm 1) ∷ gather 1 None (Xmm 1) ∷ gather 0 (Some (Xmm 2)) (Xmm 1) ∷ [])
    ≡ (Refused (cause.Register 0) ∷ Refused (cause.Register 0) ∷ Refused (cause.Register 0) ∷ Refused (cause.Register 0)
    ∷ Written (0xC4 ∷ 0xE2 ∷ 0x71 ∷ 0x92 ∷ 0x04 ∷ 0x10 ∷ []) true (gather_of 0 (Some (Xmm 2)) (Xmm 1)) ∷ [])
unfolding every_rule
gather_numbers = refl
