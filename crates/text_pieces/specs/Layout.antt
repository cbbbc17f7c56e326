-- The pieces of operands, and of a whole text in the styles with brackets.
use Rattle.std.specs.Prelude.{ℕ, Bool, true, false, ◌==◌, if◌then◌else◌, List, [], ◌∷◌, ◌++◌, Some, None, codes}
use Rattle.x86_values.specs.declared.Bits.{Bits}
use Rattle.x86_values.specs.declared.Operand.{Operand}
use Rattle.x86_values.specs.declared.Operand.TheVariants.{Absent as AbsentOperand, Reg, Mem as MemOperand, Imm, Near, Far}
use Rattle.x86_values.specs.declared.Instr.{Instr}
use Rattle.instruction_parts.specs.declared.row_types.Row.{Row}
use Rattle.text_parts.specs.declared.style.Style.{Style}
use Rattle.text_parts.specs.declared.style.Style.TheVariants.{Masm}
use Rattle.text_parts.specs.PrefixWords.{text_address_size}
use Rattle.text_parts.specs.Layout.{operand_size_name, nth_operand, is_long}
use Rattle.text_pieces.specs.declared.piece.Kind.TheVariants as kind
use Rattle.text_pieces.specs.Tokens.{Token, token, space, keyword, punctuation}
use Rattle.text_pieces.specs.Words.{prefix_pieces, name_pieces}
use Rattle.text_pieces.specs.Numbers.{immediate, near_target, far_selector, far_offset, number_pieces}
use Rattle.text_pieces.specs.Addresses.{register_pieces, bracketed_pieces}

-- ---- size words

-- what stands behind the name of a size; MASM adds ptr
unfoldable pub behind_pieces : Style → ℕ → List Token
behind_pieces Masm n = space (Some n) ++ (keyword n (codes "ptr") ++ space (Some n))
behind_pieces _ n = space (Some n)

-- the name of a size and what stands behind it, nothing where there is no name
unfoldable pub named_pieces : Style → ℕ → List ℕ → List Token
named_pieces style n [] = []
named_pieces style n (c ∷ cs) = keyword n (c ∷ cs) ++ behind_pieces style n

-- the size of what operand n of the row has in memory
abbrev pub size_pieces : Style → Row → ℕ → List Token
size_pieces style row n = named_pieces style n (operand_size_name row n)

-- ---- operands

-- what stands in front of an operand: a space before the first, a comma and a space before the others
unfoldable pub separator_pieces : Bool → Operand → List Token
separator_pieces first AbsentOperand = []
separator_pieces true _ = space None
separator_pieces false _ = token None kind.Punctuation (codes ",") ++ space None

-- a far pointer: its selector, a colon and its offset
unfoldable pub far_pieces : Style → Row → ℕ → ℕ → ℕ → List Token
far_pieces style row n selector offset =
    number_pieces style n selector (far_selector selector)
    ++ (punctuation n (codes ":") ++ number_pieces style n offset (far_offset row offset))

-- an operand in a style with brackets
unfoldable pub operand_pieces : Style → Bits → Row → Instr → ℕ → Operand → List Token
operand_pieces style bits row instr n AbsentOperand = []
operand_pieces style bits row instr n (Reg r) = register_pieces style n r
operand_pieces style bits row instr n (Imm x) = number_pieces style n x (immediate bits row n x)
operand_pieces style bits row instr n (Near x) = number_pieces style n x (near_target bits row x)
operand_pieces style bits row instr n (Far selector offset) = far_pieces style row n selector offset
operand_pieces style bits row instr n (MemOperand m) =
    size_pieces style row n ++ bracketed_pieces style instr.seg (text_address_size bits instr) n m

-- operand n with what stands in front of it
unfoldable pub part_pieces : Style → Bits → Row → Instr → ℕ → List Token
part_pieces style bits row instr n =
    separator_pieces (n == 0) (nth_operand instr n) ++ operand_pieces style bits row instr n (nth_operand instr n)

-- ---- the whole text

-- prefix words, the name, and the operands in their order
unfoldable pub bracket_pieces : Style → Bits → Row → List ℕ → Instr → List Token
bracket_pieces style bits row name instr =
    prefix_pieces bits row name instr
    ++ (name_pieces bits name instr
    ++ (part_pieces style bits row instr 0
    ++ (part_pieces style bits row instr 1
    ++ (part_pieces style bits row instr 2 ++ part_pieces style bits row instr 3))))

-- ---- how many

-- 1 for a memory operand or a far pointer, which have many pieces
abbrev pub weight_of : Operand → ℕ
weight_of op = if is_long op then 1 else 0
