-- One name for all definitions of this crate: a proof that unfolds it computes with each of them.
use Rattle.instruction_parts.specs.Kinds.{method_of, file_of, memory_width, immediate_width, fixed_number}
use Rattle.instruction_parts.specs.Counting.{is_segment, is_legacy_prefix, is_prefix, has_lock, has_66, has_67, counting_repeat, segment_named, counting_segment, counting_rex}
use Rattle.instruction_parts.specs.Sizes.{exists_in, operand_size, address_size, bit_r, bit_x, bit_b, bit_w, state_size}
use Rattle.instruction_parts.specs.Bytes.{vex_last_byte, vex_map_byte, vex_bytes, lead_bytes, tail_bytes, front_bytes, bytes_of, state_from, state_of}
use Rattle.instruction_parts.specs.Front.{prefix_run, forbids_vex, map_numbered, short_vex, long_vex, opcode_front, short_vex_front, third_byte_front, long_vex_front, vex_front, vex_or_opcode_front, escape_front, lead_front, long_front, within_15, front_of}
use Rattle.row_fit.specs.Fits.{reads_mode, reg_number, rm_number, vvvv_number, index_number, prefixes_fit, legacy_class_fits, vex_class_fits, class_fits, is_vex_of_mode, is_opcode, opcode_allows, opcode_is_kept, vex_fits, opcode_fits, modrm_rule_fits, place_allows, place_fits, opcode_and_modrm_fit, size_fits, w_fits, l_fits, sizes_fit, vvvv_fits, needs_sib, is_displacement_alone, displacement_bytes, address_fits, immediate_bytes, immediates_bytes, lengths_fit, is_memory_method, lock_fits, is_control_number, register_fits, destination_fits, gather_fits, nop_fits, registers_fit, vex_in_range, modrm_in_range, sib_in_range, fields_in_range, tail_fits, state_fits, fits}
use Rattle.row_meaning.specs.Meaning.{little_endian, sign_extended, segment_numbered, general_register, byte_register, vector, register_of, disp_size_of, base_16, index_16, memory_16, ip_or_absolute, sib_base, sib_index, memory_with_sib, memory_at_base, memory_wide, memory_of, memory_absolute, gather_memory, last_byte_number, near_target, far_pointer, memory_operand, operand_by, immediates_before, own_immediate, operand_at, kept_repeat, has_memory, kept_address_size, instr_of, meaning}
use Rattle.row_meaning.specs.MemorySize.{row_size_bytes, has_w, vector_bytes, width_in_row, size_at, memory_size}
use Rattle.plain_spelling.specs.PlainFront.{register_number, is_low_byte_of_rex, number_in_reg, number_in_rm, number_in_index, number_in_vvvv, number_in_opcode, asks_r, asks_x, asks_b, asks_rex_w, asks_vex_w, asks_66, asks_67, asked_repeat, asked_rex, class_pp, asked_vex, asked_opcode, asked_used, plain_front_of}
use Rattle.row_fit.specs.Sound.{rule_in_range, plus_is_proper, opcode_is_proper, legacy_is_proper, vex_is_proper, opcode_is_no_prefix_in, opcode_is_no_prefix, operands_are_proper, operands_are_apart, immediates_are_short, has_four_operands, opcodes_are_bytes, size_says_w, kind_is_proper, sound, begins_nothing}

-- names every definition on its `unfolding` line
unfoldable pub every_rule : Unit {0}
unfolding method_of file_of memory_width immediate_width fixed_number is_segment is_legacy_prefix is_prefix has_lock has_66 has_67 counting_repeat segment_named counting_segment counting_rex exists_in operand_size address_size bit_r bit_x bit_b bit_w state_size vex_last_byte vex_map_byte vex_bytes lead_bytes tail_bytes front_bytes bytes_of state_from state_of prefix_run forbids_vex map_numbered short_vex long_vex opcode_front short_vex_front third_byte_front long_vex_front vex_front vex_or_opcode_front escape_front lead_front long_front within_15 front_of reads_mode reg_number rm_number vvvv_number index_number prefixes_fit legacy_class_fits vex_class_fits class_fits is_vex_of_mode is_opcode opcode_allows opcode_is_kept vex_fits opcode_fits modrm_rule_fits place_allows place_fits opcode_and_modrm_fit size_fits w_fits l_fits sizes_fit vvvv_fits needs_sib is_displacement_alone displacement_bytes address_fits immediate_bytes immediates_bytes lengths_fit is_memory_method lock_fits is_control_number register_fits destination_fits gather_fits nop_fits registers_fit vex_in_range modrm_in_range sib_in_range fields_in_range tail_fits state_fits fits little_endian sign_extended segment_numbered general_register byte_register vector register_of disp_size_of base_16 index_16 memory_16 ip_or_absolute sib_base sib_index memory_with_sib memory_at_base memory_wide memory_of memory_absolute gather_memory last_byte_number near_target far_pointer memory_operand operand_by immediates_before own_immediate operand_at kept_repeat has_memory kept_address_size instr_of meaning row_size_bytes has_w vector_bytes width_in_row size_at memory_size register_number is_low_byte_of_rex number_in_reg number_in_rm number_in_index number_in_vvvv number_in_opcode asks_r asks_x asks_b asks_rex_w asks_vex_w asks_66 asks_67 asked_repeat asked_rex class_pp asked_vex asked_opcode asked_used plain_front_of rule_in_range plus_is_proper opcode_is_proper legacy_is_proper vex_is_proper opcode_is_no_prefix_in opcode_is_no_prefix operands_are_proper operands_are_apart immediates_are_short has_four_operands opcodes_are_bytes size_says_w kind_is_proper sound begins_nothing
every_rule = tt
