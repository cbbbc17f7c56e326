-- The pieces in front of an instruction's operands: the words of its prefixes, and its name.
use Rattle.std.specs.Prelude.{ℕ, Bool, true, false, if◌then◌else◌, List, [], ◌++◌, Option, Some, None, codes}
use Rattle.x86_values.specs.declared.Bits.{Bits}
use Rattle.x86_values.specs.declared.Rep.{Rep}
use Rattle.x86_values.specs.declared.Rep.TheVariants.{None as NoRep, F2, F3}
use Rattle.x86_values.specs.declared.Instr.{Instr}
use Rattle.instruction_parts.specs.declared.row_types.Row.{Row}
use Rattle.text_parts.specs.Registers.{segment_name}
use Rattle.text_parts.specs.PrefixWords.{shows_memory, size_digits, needs_address_word, is_sized, named_size, differs, usual_size, name_text}
use Rattle.text_pieces.specs.declared.piece.Kind.TheVariants as kind
use Rattle.text_pieces.specs.Tokens.{Token, token, space}

-- a prefix and the space behind it
abbrev pub word_pieces : List ℕ → List Token
word_pieces word = token None kind.Prefix word ++ space None

-- LOCK, where the instruction has it
unfoldable pub lock_pieces : Bool → List Token
lock_pieces true = word_pieces (codes "lock")
lock_pieces false = []

-- F2 or F3
unfoldable pub repeat_pieces : Rep → List Token
repeat_pieces NoRep = []
repeat_pieces F2 = word_pieces (codes "repne")
repeat_pieces F3 = word_pieces (codes "rep")

-- the segment, where no operand is memory
unfoldable pub segment_pieces : Instr → List Token
segment_pieces instr =
    if shows_memory instr then [] else (elim instr.seg [ None ↦ [] | Some s ↦ word_pieces (segment_name s) ])

-- a letter with a size, as a32
unfoldable pub sized_pieces : List ℕ → Bits → List Token
sized_pieces letter size = word_pieces (letter ++ size_digits size)

-- the address size, where it is not the mode's and nothing else shows it
unfoldable pub address_pieces : Bits → List ℕ → Instr → List Token
address_pieces bits name instr =
    elim instr.asize [
      | None ↦ []
      | Some size ↦ if needs_address_word bits size name instr then sized_pieces (codes "a") size else []
    ]

-- a size, unless it is the usual one
abbrev pub unless_usual : Bits → Bits → Option Bits
unless_usual size usual = if differs size usual then Some size else None

-- the operand size that a word names, where the row is printed with it and it is not the usual one
unfoldable pub worded_size : Bits → Row → Option Bits
worded_size bits row =
    if is_sized row then
    (elim (named_size row.size) [ None ↦ None | Some size ↦ unless_usual size (usual_size bits row) ])
    else None

-- the operand size, where it has a word
unfoldable pub operand_size_pieces : Bits → Row → List Token
operand_size_pieces bits row = elim (worded_size bits row) [ None ↦ [] | Some size ↦ sized_pieces (codes "o") size ]

-- the words of the prefixes, in their order
unfoldable pub prefix_pieces : Bits → Row → List ℕ → Instr → List Token
prefix_pieces bits row name instr =
    lock_pieces instr.lock
    ++ (repeat_pieces instr.rep
    ++ (segment_pieces instr ++ (address_pieces bits name instr ++ operand_size_pieces bits row)))

-- the name of an instruction whose row has this name
abbrev pub name_pieces : Bits → List ℕ → Instr → List Token
name_pieces bits name instr = token None kind.Mnemonic (name_text bits name instr)
