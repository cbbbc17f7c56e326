-- The text of an instruction in the AT&T style.
use Rattle.std.specs.Prelude.{ℕ, List, ◌++◌}
use Rattle.x86_values.specs.declared.Bits.{Bits}
use Rattle.x86_values.specs.declared.Instr.{Instr}
use Rattle.instruction_parts.specs.declared.row_types.Row.{Row}
use Rattle.opcode_rows.specs.Table.{name_of}
use Rattle.text_rows.specs.AtRow.{at_code}
use Rattle.text_parts.specs.PrefixWords.{prefix_words}
use Rattle.att_text.specs.Names.{att_name}
use Rattle.att_text.specs.Operands.{att_part}

-- the text of an instruction of a row with this name: prefix words, the name with its letters, operands from the last to the first
unfoldable pub text_of : Bits → Row → List ℕ → Instr → List ℕ
text_of bits row name instr =
    prefix_words bits row name instr
    ++ (att_name bits row name instr
    ++ (att_part bits row name instr 3
    ++ (att_part bits row name instr 2
    ++ (att_part bits row name instr 1 ++ att_part bits row name instr 0))))

-- the text of an instruction, by its row in the table and the row's name
unfoldable pub text : Bits → Instr → List ℕ
text bits instr = at_code (λ row. text_of bits row (name_of instr.code.0) instr) instr.code.0
