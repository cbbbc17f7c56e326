-- The text of an instruction in the Intel style.
use Rattle.std.specs.Prelude.{ℕ, List}
use Rattle.x86_values.specs.declared.Bits.{Bits}
use Rattle.x86_values.specs.declared.Instr.{Instr}
use Rattle.instruction_parts.specs.declared.row_types.Row.{Row}
use Rattle.opcode_rows.specs.Table.{name_of}
use Rattle.text_rows.specs.AtRow.{at_code}
use Rattle.text_parts.specs.declared.style.Style.TheVariants.{Intel}
use Rattle.text_parts.specs.Layout.{bracket_layout}

-- the text of an instruction of a row with this name: prefix words, name, operands in the manual's order
unfoldable pub text_of : Bits → Row → List ℕ → Instr → List ℕ
text_of bits row name instr = bracket_layout Intel bits row name instr

-- the text of an instruction, by its row in the table and the row's name
unfoldable pub text : Bits → Instr → List ℕ
text bits instr = at_code (λ row. text_of bits row (name_of instr.code.0) instr) instr.code.0
