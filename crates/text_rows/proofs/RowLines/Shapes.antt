-- Each row of the table makes a proper shape, computed row by row, and its notation is the text of that shape.
use Rattle.std.proofs.Common.{◌≡◌, ℕ, Bool, true, refl, ap, slice_get}
use Rattle.std.specs.Prelude.{Some, IsTrue}
use Rattle.instruction_parts.specs.declared.row_types.Row.{Row}
use Rattle.row_notation.specs.Shape.{size_prefix_word, plus_word, imm_word_of, imm_word, shape, is_opcode_of_map, is_rule_in_range, is_stack_proper, is_legacy_proper, is_vex_proper, is_proper}
use Rattle.row_notation.specs.Notation.{notation}
use Rattle.text_rows.specs.RowLines.Lines.{notation_of, notation_at}
use Rattle.opcode_rows.specs.Parts.{integer_rows, integer_flat, x87_rows, x87_flat, sse_rows, sse_flat, vex_rows, vex_flat}
use Rattle.opcode_rows.specs.declared.spot.Part.{Part}
use Rattle.opcode_rows.specs.declared.spot.Part.TheVariants as part
use Rattle.opcode_rows.specs.Table.{part_table, table}
use Rattle.opcode_rows.proofs.JoinFacts.{all_rows, in_each_part}

-- the row makes a proper shape
unfoldable pub has_shape : Row → Bool
has_shape row = is_proper (shape row)

each-shape : (p : Part) → all_rows has_shape (part_table p) ≡ true
unfolding all_rows has_shape size_prefix_word plus_word imm_word_of imm_word shape is_opcode_of_map is_rule_in_range is_stack_proper is_legacy_proper is_vex_proper is_proper integer_rows integer_flat x87_rows x87_flat sse_rows sse_flat vex_rows vex_flat
each-shape part.Integer = refl
each-shape part.X87 = refl
each-shape part.Sse = refl
each-shape part.Vex = refl

-- the shape of each row is proper
pub proper-row : (code : ℕ) (row : Row) → slice_get table code ≡ Some row → IsTrue (is_proper (shape row))
unfolding has_shape
proper-row code row at = in_each_part has_shape each-shape code row at

-- the notation of a row that is there
pub notation-known : (code : ℕ) (row : Row) → slice_get table code ≡ Some row → notation_at code ≡ notation (shape row)
unfolding notation_at
notation-known code row at = ap notation_of at
