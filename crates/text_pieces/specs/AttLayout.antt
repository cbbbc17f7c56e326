-- The pieces of a whole text in AT&T.
use Rattle.std.specs.Prelude.{ℕ, if◌then◌else◌, List, [], ◌++◌, Option, Some, None, codes}
use Rattle.x86_values.specs.declared.Bits.{Bits}
use Rattle.x86_values.specs.declared.Segment.{Segment}
use Rattle.x86_values.specs.declared.Mem.{Mem}
use Rattle.x86_values.specs.declared.Operand.{Operand}
use Rattle.x86_values.specs.declared.Operand.TheVariants.{Absent as AbsentOperand, Reg, Mem as MemOperand, Imm, Near, Far}
use Rattle.x86_values.specs.declared.Instr.{Instr}
use Rattle.instruction_parts.specs.declared.row_types.Row.{Row}
use Rattle.text_parts.specs.declared.style.Style.TheVariants.{Att}
use Rattle.text_parts.specs.Addresses.{is_relative, is_absolute}
use Rattle.text_parts.specs.PrefixWords.{text_address_size}
use Rattle.text_parts.specs.Layout.{nth_operand}
use Rattle.att_text.specs.Names.{att_name}
use Rattle.att_text.specs.Operands.{star, is_last}
use Rattle.text_pieces.specs.declared.piece.Kind.TheVariants as kind
use Rattle.text_pieces.specs.Tokens.{Token, token, space, punctuation, operator}
use Rattle.text_pieces.specs.Words.{prefix_pieces}
use Rattle.text_pieces.specs.Numbers.{immediate, near_target, far_selector, far_offset, address, number_pieces}
use Rattle.text_pieces.specs.Addresses.{register_pieces, signed_pieces, lone_pieces, base_pieces, scale_pieces, override_pieces}
use Rattle.text_pieces.specs.Layout.{separator_pieces}

-- ---- addresses

-- an index with its scale behind a comma, or nothing
unfoldable pub att_index_pieces : Bits → ℕ → Mem → List Token
att_index_pieces asize n m =
    elim m.index [ None ↦ [] | Some r ↦ punctuation n (codes ",") ++ (register_pieces Att n r ++ scale_pieces Att asize n m) ]

-- base and index in parentheses
unfoldable pub att_register_pieces : Bits → ℕ → Mem → List Token
att_register_pieces asize n m =
    punctuation n (codes "(") ++ (base_pieces Att n m.base ++ (att_index_pieces asize n m ++ punctuation n (codes ")")))

-- a target in front of the instruction pointer
unfoldable pub att_relative_pieces : Bits → ℕ → Mem → List Token
att_relative_pieces asize n m =
    number_pieces Att n m.disp (address asize m)
    ++ (punctuation n (codes "(") ++ (base_pieces Att n m.base ++ punctuation n (codes ")")))

-- an address: the displacement, then base and index
unfoldable pub att_address_pieces : Bits → ℕ → Mem → List Token
att_address_pieces asize n m =
    if is_relative m then att_relative_pieces asize n m
    else (if is_absolute m then lone_pieces Att asize n m
    else (signed_pieces Att asize n m ++ att_register_pieces asize n m))

-- an address with its segment
unfoldable pub att_memory_pieces : Option Segment → Bits → ℕ → Mem → List Token
att_memory_pieces seg asize n m = override_pieces Att n seg ++ att_address_pieces asize n m

-- ---- operands

-- a far pointer: its selector and its offset, as constants
unfoldable pub att_far_pieces : Row → ℕ → ℕ → ℕ → List Token
att_far_pieces row n selector offset =
    operator n (codes "$")
    ++ (number_pieces Att n selector (far_selector selector)
    ++ (punctuation n (codes ",")
    ++ (space (Some n) ++ (operator n (codes "$") ++ number_pieces Att n offset (far_offset row offset)))))

-- an operand
unfoldable pub att_operand_pieces : Bits → Row → Instr → ℕ → Operand → List Token
att_operand_pieces bits row instr n AbsentOperand = []
att_operand_pieces bits row instr n (Reg r) = register_pieces Att n r
att_operand_pieces bits row instr n (Imm x) = operator n (codes "$") ++ number_pieces Att n x (immediate bits row n x)
att_operand_pieces bits row instr n (Near x) = number_pieces Att n x (near_target bits row x)
att_operand_pieces bits row instr n (Far selector offset) = att_far_pieces row n selector offset
att_operand_pieces bits row instr n (MemOperand m) = att_memory_pieces instr.seg (text_address_size bits instr) n m

-- operand n with what stands in front of it
unfoldable pub att_part_pieces : Bits → Row → List ℕ → Instr → ℕ → List Token
att_part_pieces bits row name instr n =
    separator_pieces (is_last instr n) (nth_operand instr n)
    ++ (operator n (star row name n) ++ att_operand_pieces bits row instr n (nth_operand instr n))

-- ---- the whole text

-- prefix words, the name with its letters, operands from the last to the first
unfoldable pub att_pieces : Bits → Row → List ℕ → Instr → List Token
att_pieces bits row name instr =
    prefix_pieces bits row name instr
    ++ (token None kind.Mnemonic (att_name bits row name instr)
    ++ (att_part_pieces bits row name instr 3
    ++ (att_part_pieces bits row name instr 2
    ++ (att_part_pieces bits row name instr 1 ++ att_part_pieces bits row name instr 0))))
