-- Each instruction that is drawn is spelled by its bytes.
use Rattle.std.proofs.Common.{◌≡◌, ℕ, zero, suc, ◌+◌, ◌<◌, true, false, List, [], ◌∷◌, Option, Some, None, nat_lt, refl, arith}
use Rattle.x86_values.specs.declared.Bits.TheVariants.{B64}
use Rattle.instruction_parts.specs.declared.row_types.Map.TheVariants.{M0f}
use Rattle.instruction_parts.specs.declared.spelling.Vex.{Vex}
use Rattle.instruction_parts.specs.declared.spelling.ModRm.{ModRm}
use Rattle.instruction_parts.specs.declared.spelling.Spelling.{Spelling}
use Rattle.instruction_parts.specs.Bytes.{bytes_of, front_bytes, lead_bytes, state_from, state_of, tail_bytes, vex_bytes, vex_last_byte, vex_map_byte}
use Rattle.instruction_parts.specs.Counting.{counting_repeat, counting_rex, counting_segment, has_66, has_67, has_lock, is_legacy_prefix, is_prefix, is_segment, segment_named}
use Rattle.instruction_parts.specs.Front.{forbids_vex, prefix_run}
use Rattle.instruction_parts.specs.Kinds.{file_of, immediate_width, method_of}
use Rattle.instruction_parts.specs.Sizes.{address_size, bit_b, bit_r, bit_w, bit_x, exists_in, operand_size, state_size}
use Rattle.row_fit.specs.Fits.{address_fits, class_fits, destination_fits, displacement_bytes, fields_in_range, fits, gather_fits, immediate_bytes, immediates_bytes, index_number, is_control_number, is_displacement_alone, is_memory_method, is_opcode, is_vex_of_mode, l_fits, legacy_class_fits, lengths_fit, lock_fits, modrm_in_range, modrm_rule_fits, needs_sib, nop_fits, opcode_allows, opcode_and_modrm_fit, opcode_fits, opcode_is_kept, place_allows, place_fits, prefixes_fit, reads_mode, reg_number, register_fits, registers_fit, rm_number, sib_in_range, size_fits, sizes_fit, state_fits, tail_fits, vex_class_fits, vex_fits, vex_in_range, vvvv_fits, vvvv_number, w_fits}
use Rattle.listing_run.proofs.SampleRun.Rows.{nop_row, store_row, number_row, load_row, branch_row, call_row, wide_load_row, add_row}

-- one name for all rules that the bytes are tested by: a proof that unfolds it computes with each of them
unfoldable every_rule : Unit {0}
unfolding vex_last_byte vex_map_byte vex_bytes lead_bytes tail_bytes front_bytes bytes_of state_from state_of is_segment is_legacy_prefix is_prefix has_lock has_66 has_67 counting_repeat segment_named counting_segment counting_rex method_of file_of immediate_width exists_in operand_size address_size bit_r bit_x bit_b bit_w state_size reads_mode reg_number rm_number vvvv_number index_number prefixes_fit legacy_class_fits vex_class_fits class_fits is_vex_of_mode is_opcode opcode_allows opcode_is_kept vex_fits opcode_fits modrm_rule_fits place_allows place_fits opcode_and_modrm_fit size_fits w_fits l_fits sizes_fit vvvv_fits needs_sib is_displacement_alone displacement_bytes address_fits immediate_bytes immediates_bytes lengths_fit is_memory_method lock_fits is_control_number register_fits destination_fits gather_fits nop_fits registers_fit vex_in_range modrm_in_range sib_in_range fields_in_range tail_fits state_fits fits forbids_vex prefix_run
every_rule = tt

-- the parts of an instruction without SIB
abbrev pub parts : List ℕ → Option Vex → ℕ → Option ModRm → List ℕ → List ℕ → Spelling
parts prefixes vex opcode modrm disp imm = record {
  prefixes = record { items = prefixes };
  vex = vex;
  opcode = opcode;
  modrm = modrm;
  sib = None;
  disp = record { items = disp };
  imm = record { items = imm };
}

-- the ModRM of two registers
abbrev pub registers : ℕ → ℕ → Option ModRm
registers reg rm = Some (record { mode3 = 3; reg = reg; rm = rm })

-- a VEX of two bytes that adds nothing
abbrev pub short_vex : Vex
short_vex = record { three = false; r = false; x = false; b = false; w = false; l = false; map = M0f; vvvv = 0; pp = 0 }

-- ---- the conditions

-- NOP
pub fits-nop : fits B64 nop_row (parts [] None 0x90 None [] []) ≡ true
unfolding every_rule
fits-nop = refl

-- MOV of a register to a register
pub fits-store : (reg : ℕ) → (rm : ℕ) → nat_lt reg 8 ≡ true → nat_lt rm 8 ≡ true
    → fits B64 store_row (parts (0x48 ∷ []) None 0x89 (registers reg rm) [] []) ≡ true
unfolding every_rule
fits-store reg rm h0 h1 = rw (h0, h1) refl

-- MOV of a number to each of the eight registers
pub fits-number : (d a b c e : ℕ) → d < 8 → nat_lt a 256 ≡ true → nat_lt b 256 ≡ true → nat_lt c 256 ≡ true
    → nat_lt e 256 ≡ true
    → fits B64 number_row (parts [] None (0xB8 + d) None [] (a ∷ b ∷ c ∷ e ∷ [])) ≡ true
unfolding every_rule
fits-number zero a b c e lt h0 h1 h2 h3 = rw (h0, h1, h2, h3) refl
fits-number (suc zero) a b c e lt h0 h1 h2 h3 = rw (h0, h1, h2, h3) refl
fits-number (suc (suc zero)) a b c e lt h0 h1 h2 h3 = rw (h0, h1, h2, h3) refl
fits-number (suc (suc (suc zero))) a b c e lt h0 h1 h2 h3 = rw (h0, h1, h2, h3) refl
fits-number (suc (suc (suc (suc zero)))) a b c e lt h0 h1 h2 h3 = rw (h0, h1, h2, h3) refl
fits-number (suc (suc (suc (suc (suc zero))))) a b c e lt h0 h1 h2 h3 = rw (h0, h1, h2, h3) refl
fits-number (suc (suc (suc (suc (suc (suc zero)))))) a b c e lt h0 h1 h2 h3 = rw (h0, h1, h2, h3) refl
fits-number (suc (suc (suc (suc (suc (suc (suc zero))))))) a b c e lt h0 h1 h2 h3 = rw (h0, h1, h2, h3) refl
fits-number (suc (suc (suc (suc (suc (suc (suc (suc d)))))))) a b c e lt h0 h1 h2 h3 = absurd (omega arith)

-- MOV from memory at a register with a displacement of a byte
pub fits-load : (a : ℕ) → nat_lt a 256 ≡ true
    → fits B64 load_row (parts [] None 0x8B (Some (record { mode3 = 1; reg = 0; rm = 3 })) (a ∷ []) []) ≡ true
unfolding every_rule
fits-load a h0 = rw h0 refl

-- a short JNE
pub fits-branch : (a : ℕ) → nat_lt a 256 ≡ true → fits B64 branch_row (parts [] None 0x75 None [] (a ∷ [])) ≡ true
unfolding every_rule
fits-branch a h0 = rw h0 refl

-- CALL
pub fits-call : (a : ℕ) → (b : ℕ) → (c : ℕ) → (d : ℕ) → nat_lt a 256 ≡ true → nat_lt b 256 ≡ true
    → nat_lt c 256 ≡ true → nat_lt d 256 ≡ true
    → fits B64 call_row (parts [] None 0xE8 None [] (a ∷ b ∷ c ∷ d ∷ [])) ≡ true
unfolding every_rule
fits-call a b c d h0 h1 h2 h3 = rw (h0, h1, h2, h3) refl

-- MOV from memory at RIP
pub fits-wide_load : (a : ℕ) → (b : ℕ) → (c : ℕ) → (d : ℕ) → nat_lt a 256 ≡ true → nat_lt b 256 ≡ true
    → nat_lt c 256 ≡ true → nat_lt d 256 ≡ true
    → fits B64 wide_load_row (parts (0x48 ∷ []) None 0x8B (Some (record { mode3 = 0; reg = 0; rm = 5 }))
    (a ∷ b ∷ c ∷ d ∷ []) []) ≡ true
unfolding every_rule
fits-wide_load a b c d h0 h1 h2 h3 = rw (h0, h1, h2, h3) refl

-- VADDPS of registers
pub fits-add : (reg : ℕ) → (rm : ℕ) → nat_lt reg 8 ≡ true → nat_lt rm 8 ≡ true
    → fits B64 add_row (parts [] (Some short_vex) 0x58 (registers reg rm) [] []) ≡ true
unfolding every_rule
fits-add reg rm h0 h1 = rw (h0, h1) refl
