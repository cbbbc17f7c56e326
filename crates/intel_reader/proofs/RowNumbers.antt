-- The number of each code is that of the flags of its row.
use Rattle.std.proofs.Common.{◌≡◌, ℕ, Option, Some, refl, ap, sym, ◌∙◌, slice_get}
use Rattle.std.specs.Prelude.{map}
use Rattle.std.specs.Option.{option_map}
use Rattle.std.proofs.lemmas.Option.{slice_get-map}
use Rattle.instruction_parts.specs.declared.row_types.Row.{Row}
use Rattle.instruction_parts.specs.Kinds.{method_of, file_of, fixed_number}
use Rattle.instruction_parts.specs.Sizes.{exists_in, operand_size}
use Rattle.plain_spelling.specs.Forms.{is_allowed_in, is_variant_of}
use Rattle.plain_spelling.specs.PlainFront.{asks_rex_w, asks_66}
use Rattle.plain_spelling.specs.PlainTail.{plain_size}
use Rattle.opcode_rows.specs.Parts.{integer_rows, integer_flat, x87_rows, x87_flat, sse_rows, sse_flat, vex_rows, vex_flat}
use Rattle.opcode_rows.specs.Table.{spots, rows_in, table}
use Rattle.intel_reader.specs.Operands.{sample, is_of_size, is_byte, is_xmm, is_other, names_operand, class_has_number, has_fixed, names_class, words_suit_register, is_near, admits, by_class, row_flags, number_of, row_numbers}

numbers_are : map (λ row. number_of (row_flags row)) table ≡ row_numbers
unfolding method_of file_of fixed_number exists_in operand_size is_allowed_in is_variant_of asks_rex_w asks_66 plain_size integer_rows integer_flat x87_rows x87_flat sse_rows sse_flat vex_rows vex_flat spots rows_in table sample is_of_size is_byte is_xmm is_other names_operand class_has_number has_fixed names_class words_suit_register is_near admits by_class row_flags number_of row_numbers
numbers_are = refl

some_number : (o : Option ℕ) (x y : ℕ) → o ≡ Some x → o ≡ Some y → x ≡ y
some_number o x y e f = cc

-- **the number of a code is that of its row**
pub number_is : (code number : ℕ) (row : Row) → slice_get row_numbers code ≡ Some number → slice_get table code ≡ Some row → number ≡ number_of (row_flags row)
number_is code number row here there =
    some_number (slice_get row_numbers code) number (number_of (row_flags row)) here
    (ap (λ xs. slice_get xs code) (sym numbers_are) ∙ slice_get-map (λ row. number_of (row_flags row)) table code
    ∙ ap (λ (o : Option Row). option_map (λ row. number_of (row_flags row)) o) there)
