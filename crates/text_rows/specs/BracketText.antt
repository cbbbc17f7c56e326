-- The text of an instruction in a style with brackets.
use Rattle.std.specs.Prelude.{ℕ, List}
use Rattle.x86_values.specs.declared.Bits.{Bits}
use Rattle.x86_values.specs.declared.Instr.{Instr}
use Rattle.opcode_rows.specs.Table.{name_of}
use Rattle.text_parts.specs.declared.style.Style.{Style}
use Rattle.text_parts.specs.Layout.{bracket_layout}
use Rattle.text_rows.specs.AtRow.{at_code}

-- the text of an instruction, by its row in the table and the row's name: prefix words, name, operands in the manual's order
unfoldable pub bracket_text : Style → Bits → Instr → List ℕ
bracket_text style bits instr = at_code (λ row. bracket_layout style bits row (name_of instr.code.0) instr) instr.code.0
