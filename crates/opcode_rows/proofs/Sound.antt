-- Every row is sound.
use Rattle.std.proofs.Common.{◌≡◌, ℕ, true, refl, slice_get}
use Rattle.std.specs.Prelude.{Some, IsTrue}
use Rattle.instruction_parts.specs.declared.row_types.Row.{Row}
use Rattle.instruction_parts.specs.Kinds.{method_of, file_of, immediate_width}
use Rattle.instruction_parts.specs.Counting.{is_segment, is_legacy_prefix, is_prefix}
use Rattle.instruction_parts.specs.Sizes.{exists_in}
use Rattle.row_fit.specs.Fits.{immediate_bytes, immediates_bytes}
use Rattle.row_fit.specs.Sound.{has_four_operands, opcodes_are_bytes, kind_is_proper, size_says_w, rule_in_range, plus_is_proper, opcode_is_proper, legacy_is_proper, vex_is_proper, opcode_is_no_prefix_in, opcode_is_no_prefix, operands_are_proper, operands_are_apart, immediates_are_short, sound}
use Rattle.opcode_rows.specs.Parts.{integer_rows, integer_flat, x87_rows, x87_flat, sse_rows, sse_flat, vex_rows, vex_flat}
use Rattle.opcode_rows.specs.declared.spot.Part.{Part}
use Rattle.opcode_rows.specs.declared.spot.Part.TheVariants as part
use Rattle.opcode_rows.specs.Table.{part_table, table}
use Rattle.opcode_rows.proofs.JoinFacts.{all_rows, in_each_part}

each-sound : (p : Part) → all_rows sound (part_table p) ≡ true
unfolding all_rows sound has_four_operands opcodes_are_bytes kind_is_proper size_says_w rule_in_range plus_is_proper opcode_is_proper legacy_is_proper vex_is_proper opcode_is_no_prefix_in opcode_is_no_prefix operands_are_proper operands_are_apart immediates_are_short immediate_bytes immediates_bytes exists_in is_segment is_legacy_prefix is_prefix method_of file_of immediate_width integer_rows integer_flat x87_rows x87_flat sse_rows sse_flat vex_rows vex_flat
each-sound part.Integer = refl
each-sound part.X87 = refl
each-sound part.Sse = refl
each-sound part.Vex = refl

-- every row of the table is sound
pub sound-row : (code : ℕ) (row : Row) → slice_get table code ≡ Some row → IsTrue (sound row)
sound-row code row at = in_each_part sound each-sound code row at
