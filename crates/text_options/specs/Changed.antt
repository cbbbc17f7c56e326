-- The text of an instruction as options and a resolver say.
use Rattle.std.specs.Prelude.{ℕ, List, [], ◌++◌, Option, Some, None, slice_get}
use Rattle.x86_values.specs.declared.Bits.{Bits}
use Rattle.x86_values.specs.declared.Instr.{Instr}
use Rattle.instruction_parts.specs.declared.row_types.Row.{Row}
use Rattle.opcode_rows.specs.Table.{table, name_of}
use Rattle.text_parts.specs.declared.style.Style.{Style}
use Rattle.text_pieces.specs.Pieces.{pieces_of}
use Rattle.text_options.specs.declared.options.Names.TheVariants.{Manual, Gnu}
use Rattle.text_options.specs.declared.options.Options.{Options}
use Rattle.text_options.specs.declared.gnu_prefixes.Prefix.TheVariants.{OperandSize}
use Rattle.text_options.specs.Answers.{Answers}
use Rattle.text_options.specs.Views.{view_of}
use Rattle.text_options.specs.Parts.{changed}
use Rattle.text_options.specs.GnuForms.{form_of}
use Rattle.text_options.specs.GnuPrefixes.{has_prefix}
use Rattle.text_options.specs.GnuEffects.{working_segment}
use Rattle.text_options.specs.GnuFront.{front_by}

-- the text in front of the operands, by a row that may be absent
abbrev pub front_in : Style → Options → Bits → Option Row → Instr → List ℕ → List ℕ
front_in style options bits None instr code = []
front_in style options bits (Some row) instr code =
    front_by style options bits row (name_of instr.code.0) (form_of instr.code.0 (has_prefix OperandSize code)) instr code

-- GNU's text in front of the operands that the row names; with the manual's names the pieces have all of it
unfoldable pub front_text : Style → Options → Bits → Instr → List ℕ → List ℕ
front_text style options bits instr code =
    elim options.names [ Manual ↦ [] | Gnu ↦ front_in style options bits (slice_get table instr.code.0) instr code ]

-- the instruction whose operands are shown: GNU shows no segment that has no effect
unfoldable pub shown_instr : Options → Bits → Instr → Instr
shown_instr options bits instr = elim options.names [
  | Manual ↦ instr
  | Gnu ↦ record {
    code = instr.code;
    lock = instr.lock;
    rep = instr.rep;
    seg = working_segment bits instr.seg;
    asize = instr.asize;
    ops = instr.ops;
  }
]

-- the pieces of the printer's text, changed as the options and the answers say; end is the address of the next instruction
abbrev pub pieces_by : Style → Options → Bits → Instr → ℕ → Answers → List ℕ
pieces_by style options bits instr end names = changed (view_of style options instr end) names (pieces_of style bits instr)

-- the text of an instruction that has these bytes, or of which no bytes are known: what stands in front, and the changed pieces
unfoldable pub text_of_bytes : Style → Options → Bits → List ℕ → Instr → ℕ → Answers → List ℕ
text_of_bytes style options bits code instr end names =
    front_text style options bits instr code ++ pieces_by style options bits (shown_instr options bits instr) end names

-- the text of an instruction of which no bytes are known
unfoldable pub text_by : Style → Options → Bits → Instr → ℕ → Answers → List ℕ
text_by style options bits instr end names = text_of_bytes style options bits [] instr end names
