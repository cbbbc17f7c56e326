-- What the instructions that are drawn are aimed at.
use Rattle.std.proofs.Common.{ℕ, ◌+◌, ◌^◌, ◌<◌, [], ◌∷◌, Some, None, refl}
use Rattle.x86_values.specs.declared.Bits.TheVariants.{B64}
use Rattle.x86_values.specs.declared.Instr.{Instr}
use Rattle.x86_values.specs.Wrapping.{modulo_width}
use Rattle.instruction_parts.specs.declared.row_types.Row.{Row}
use Rattle.instruction_parts.specs.declared.spelling.Spelling.{Spelling}
use Rattle.instruction_parts.specs.Bytes.{bytes_of, front_bytes, lead_bytes, state_from, state_of, tail_bytes, vex_bytes, vex_last_byte, vex_map_byte}
use Rattle.instruction_parts.specs.Counting.{counting_repeat, counting_rex, counting_segment, has_66, has_67, has_lock, is_legacy_prefix, is_prefix, is_segment, segment_named}
use Rattle.instruction_parts.specs.Front.{prefix_run}
use Rattle.instruction_parts.specs.Kinds.{file_of, immediate_width, method_of}
use Rattle.instruction_parts.specs.Sizes.{address_size, bit_b, bit_r, bit_w, bit_x, operand_size, state_size}
use Rattle.row_fit.specs.Fits.{immediate_bytes, index_number, is_displacement_alone, is_memory_method, reg_number, rm_number, vvvv_number}
use Rattle.row_meaning.specs.Meaning.{disp_size_of, general_register, has_memory, immediates_before, instr_of, kept_address_size, kept_repeat, little_endian, meaning, ip_or_absolute, memory_at_base, memory_wide, memory_of, memory_operand, near_target, operand_at, operand_by, own_immediate, register_of, sign_extended, vector}
use Rattle.operand_info.specs.Operands.{near_value, ip_value}
use Rattle.move_goals.specs.MovedTargets.Targets.{target_of, base_reach, operand_reach, target_reach}
use Rattle.listing_run.specs.SampleRun.Made.{IsAimedLow, nowhere, near, by_rip}
use Rattle.listing_run.proofs.SampleRun.Rows.{nop_row, store_row, number_row, load_row, branch_row, call_row, wide_load_row, add_row}
use Rattle.listing_run.proofs.SampleRun.Spelled.{parts, registers, short_vex}

-- one name for the rules that make a meaning, but for how bytes are numbers: a proof that unfolds it computes with each
unfoldable every_meaning : Unit {0}
unfolding general_register vector register_of disp_size_of ip_or_absolute memory_at_base memory_wide memory_of near_target memory_operand operand_by immediates_before own_immediate operand_at kept_repeat has_memory kept_address_size instr_of meaning state_from state_of is_segment is_legacy_prefix is_prefix has_lock has_66 has_67 counting_repeat segment_named counting_segment counting_rex method_of file_of immediate_width operand_size address_size bit_r bit_x bit_b bit_w state_size reg_number rm_number vvvv_number index_number is_displacement_alone immediate_bytes is_memory_method prefix_run vex_last_byte vex_map_byte vex_bytes lead_bytes tail_bytes front_bytes bytes_of near_value ip_value target_of target_reach operand_reach base_reach
every_meaning = tt

-- what the spelling of a row of a code means at an address
abbrev pub meant : ℕ → ℕ → Row → Spelling → Instr
meant ip code row s = meaning B64 ip (record { 0 = code }) row s

-- NOP is aimed at nothing
pub aim-nop : (ip : ℕ) → IsAimedLow (meant ip 290 nop_row (parts [] None 0x90 None [] []))
unfolding every_meaning little_endian sign_extended
aim-nop ip = nowhere refl refl refl

-- nor is MOV of a register to a register
pub aim-store : (ip : ℕ) (reg : ℕ) (rm : ℕ)
    → IsAimedLow (meant ip 275 store_row (parts (0x48 ∷ []) None 0x89 (registers reg rm) [] []))
unfolding every_meaning little_endian sign_extended
aim-store ip reg rm = nowhere refl refl refl

-- nor MOV of a number to a register
pub aim-number : (ip : ℕ) (o : ℕ) (a : ℕ) (b : ℕ) (c : ℕ) (d : ℕ)
    → IsAimedLow (meant ip 346 number_row (parts [] None o None [] (a ∷ b ∷ c ∷ d ∷ [])))
unfolding every_meaning little_endian sign_extended
aim-number ip o a b c d = nowhere refl refl refl

-- nor MOV from memory at a register
pub aim-load : (ip : ℕ) (a : ℕ)
    → IsAimedLow (meant ip 278 load_row (parts [] None 0x8B (Some (record { mode3 = 1; reg = 0; rm = 3 })) (a ∷ []) []))
unfolding every_meaning little_endian sign_extended
aim-load ip a = nowhere refl refl refl

-- a short JNE has a near target
pub aim-branch : (ip : ℕ) (a : ℕ) → IsAimedLow (meant ip 169 branch_row (parts [] None 0x75 None [] (a ∷ [])))
unfolding every_meaning little_endian sign_extended
aim-branch ip a = near _ refl

-- and so has a CALL
pub aim-call : (ip : ℕ) (a : ℕ) (b : ℕ) (c : ℕ) (d : ℕ)
    → IsAimedLow (meant ip 623 call_row (parts [] None 0xE8 None [] (a ∷ b ∷ c ∷ d ∷ [])))
unfolding every_meaning little_endian sign_extended
aim-call ip a b c d = near _ refl

-- VADDPS is aimed at nothing
pub aim-add : (ip : ℕ) (reg : ℕ) (rm : ℕ)
    → IsAimedLow (meant ip 1496 add_row (parts [] (Some short_vex) 0x58 (registers reg rm) [] []))
unfolding every_meaning little_endian sign_extended
aim-add ip reg rm = nowhere refl refl refl

-- MOV from memory at RIP is aimed at the sum of the end of the instruction and its displacement
pub aim-wide_load : (ip : ℕ) (a b c d : ℕ)
    → modulo_width B64 (modulo_width B64 (ip + 7) + sign_extended 64 (a ∷ b ∷ c ∷ d ∷ [])) < 2 ^ 24
    → IsAimedLow (meant ip 279 wide_load_row (parts (0x48 ∷ []) None 0x8B (Some (record { mode3 = 0; reg = 0; rm = 5 }))
    (a ∷ b ∷ c ∷ d ∷ []) []))
unfolding every_meaning
aim-wide_load ip a b c d low =
    by_rip (modulo_width B64 (modulo_width B64 (ip + 7) + sign_extended 64 (a ∷ b ∷ c ∷ d ∷ []))) low refl refl refl
