-- The row of a code of the table.
use Rattle.std.proofs.Common.{◌≡◌, ℕ, List, ap, sym, ◌∙◌, slice_get}
use Rattle.std.specs.Prelude.{Some}
use Rattle.instruction_parts.specs.declared.row_types.Row.{Row}
use Rattle.opcode_rows.specs.Table.{table, name_of}
use Rattle.text_rows.specs.AtRow.{at_row, at_code}

-- what a function gives of the row and the name of a code, where both are known
pub text-known : (text : Row → List ℕ → List ℕ) (code : ℕ) (row : Row) (name : List ℕ) → slice_get table code ≡ Some row → name ≡ name_of code
    → text row name ≡ at_code (λ r. text r (name_of code)) code
unfolding at_code
text-known text code row name row_is name_is =
    ap (text row) name_is ∙ sym (ap (λ r. at_row (λ q. text q (name_of code)) r) row_is)
