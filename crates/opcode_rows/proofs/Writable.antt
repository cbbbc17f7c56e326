-- Every row has plain spellings in each mode in which it exists.
use Rattle.std.proofs.Common.{◌≡◌, ℕ, true, refl, slice_get}
use Rattle.std.specs.Prelude.{Some, IsTrue}
use Rattle.instruction_parts.specs.declared.row_types.Row.{Row}
use Rattle.instruction_parts.specs.Kinds.{method_of, file_of, immediate_width}
use Rattle.instruction_parts.specs.Counting.{is_segment, is_legacy_prefix, is_prefix}
use Rattle.instruction_parts.specs.Sizes.{exists_in, operand_size}
use Rattle.row_fit.specs.Fits.{size_fits, is_opcode}
use Rattle.plain_spelling.specs.PlainFront.{asks_rex_w, asks_vex_w, asks_66}
use Rattle.plain_spelling.specs.PlainTail.{plain_size}
use Rattle.plain_spelling.specs.Writable.{plain_w, has_plain_size, says_w, file_is_told, width_is_told, value_is_told, kind_is_told, class_allows_size, lock_is_legacy, opcode_is_allowed, opcode_is_plain, nop_is_bare, rule_is_plain, place_is_plain, gather_is_whole, writable_in, writable}
use Rattle.opcode_rows.specs.Parts.{integer_rows, integer_flat, x87_rows, x87_flat, sse_rows, sse_flat, vex_rows, vex_flat}
use Rattle.opcode_rows.specs.declared.spot.Part.{Part}
use Rattle.opcode_rows.specs.declared.spot.Part.TheVariants as part
use Rattle.opcode_rows.specs.Table.{part_table, table}
use Rattle.opcode_rows.proofs.JoinFacts.{all_rows, in_each_part}

each-writable : (p : Part) → all_rows writable (part_table p) ≡ true
unfolding all_rows writable writable_in has_plain_size plain_size plain_w operand_size size_fits asks_rex_w asks_vex_w asks_66 class_allows_size opcode_is_plain opcode_is_allowed is_opcode kind_is_told file_is_told width_is_told value_is_told says_w lock_is_legacy nop_is_bare rule_is_plain place_is_plain gather_is_whole exists_in is_segment is_legacy_prefix is_prefix method_of file_of immediate_width integer_rows integer_flat x87_rows x87_flat sse_rows sse_flat vex_rows vex_flat
each-writable part.Integer = refl
each-writable part.X87 = refl
each-writable part.Sse = refl
each-writable part.Vex = refl

-- every row of the table can be written
pub writable-row : (code : ℕ) (row : Row) → slice_get table code ≡ Some row → IsTrue (writable row)
writable-row code row at = in_each_part writable each-writable code row at
