-- The pieces of an instruction's text.
use Rattle.std.specs.Prelude.{ℕ, List, [], Option, Some, None, slice_get}
use Rattle.std.specs.List.{filter}
use Rattle.x86_values.specs.declared.Bits.{Bits}
use Rattle.x86_values.specs.declared.Instr.{Instr}
use Rattle.instruction_parts.specs.declared.row_types.Row.{Row}
use Rattle.opcode_rows.specs.Table.{table, name_of}
use Rattle.text_parts.specs.declared.style.Style.{Style}
use Rattle.text_parts.specs.declared.style.Style.TheVariants.{Intel, Masm, Att}
use Rattle.intel_text.specs.Text as intel
use Rattle.masm_text.specs.Text as masm
use Rattle.att_text.specs.Text as att
use Rattle.text_pieces.specs.Tokens.{Token, has_characters}
use Rattle.text_pieces.specs.Layout.{bracket_pieces}
use Rattle.text_pieces.specs.AttLayout.{att_pieces}

-- the parts of the text of an instruction of a row with this name
unfoldable pub parts_of : Style → Bits → Row → List ℕ → Instr → List Token
parts_of Att bits row name instr = att_pieces bits row name instr
parts_of Masm bits row name instr = bracket_pieces Masm bits row name instr
parts_of Intel bits row name instr = bracket_pieces Intel bits row name instr

-- the parts by a row that may be absent
abbrev pub parts_in : Style → Bits → Option Row → List ℕ → Instr → List Token
parts_in style bits None name instr = []
parts_in style bits (Some row) name instr = parts_of style bits row name instr

-- the pieces of an instruction's text, by its row in the table and the row's name: the parts that have characters
unfoldable pub pieces_of : Style → Bits → Instr → List Token
pieces_of style bits instr =
    filter has_characters (parts_in style bits (slice_get table instr.code.0) (name_of instr.code.0) instr)

-- the text that the printer of a style gives
unfoldable pub text_of : Style → Bits → Instr → List ℕ
text_of Intel bits instr = intel.text bits instr
text_of Masm bits instr = masm.text bits instr
text_of Att bits instr = att.text bits instr
