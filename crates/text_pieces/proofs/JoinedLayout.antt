-- The characters of the pieces of a text with brackets are the text.
use Rattle.std.proofs.Common.{◌≡◌, ℕ, Bool, true, false, List, [], ◌∷◌, ◌++◌, refl, ap}
use Rattle.std.specs.Prelude.{◌==◌, codes}
use Rattle.std.proofs.lemmas.List.{append-nil}
use Rattle.x86_values.specs.declared.Bits.{Bits}
use Rattle.x86_values.specs.declared.Operand.{Operand}
use Rattle.x86_values.specs.declared.Operand.TheVariants.{Absent as AbsentOperand, Reg, Mem as MemOperand, Imm, Near, Far}
use Rattle.x86_values.specs.declared.Instr.{Instr}
use Rattle.instruction_parts.specs.declared.row_types.Row.{Row}
use Rattle.text_parts.specs.declared.style.Style.{Style}
use Rattle.text_parts.specs.declared.style.Style.TheVariants.{Intel, Masm, Att}
use Rattle.text_parts.specs.Numbers.{number}
use Rattle.text_parts.specs.PrefixWords.{text_address_size}
use Rattle.text_parts.specs.Layout.{operand_size_name, behind_size, size_word, nth_operand, separator, bracket_operand, operand_part, bracket_layout}
use Rattle.text_pieces.specs.Tokens.{joined}
use Rattle.text_pieces.specs.Words.{prefix_pieces, name_pieces}
use Rattle.text_pieces.specs.Layout.{behind_pieces, named_pieces, size_pieces, separator_pieces, far_pieces, operand_pieces, part_pieces, bracket_pieces}
use Rattle.text_pieces.proofs.Joined.{joined-both, nil-behind}
use Rattle.text_pieces.proofs.JoinedWords.{prefix-joined, name-joined}
use Rattle.text_pieces.proofs.JoinedAddresses.{HasBrackets, register-joined, bracketed-joined}

named-joined : (style : Style) (n : ℕ) (name : List ℕ) → joined (named_pieces style n name) ≡ name ++ behind_size style name
unfolding named_pieces behind_pieces behind_size
named-joined style n [] = refl
named-joined Intel n (c ∷ cs) = refl
named-joined Masm n (c ∷ cs) = refl
named-joined Att n (c ∷ cs) = refl

size-joined : (style : Style) (row : Row) (n : ℕ) → joined (size_pieces style row n) ≡ size_word style row n
unfolding size_word
size-joined style row n = named-joined style n (operand_size_name row n)

-- what stands in front of an operand
pub separator-joined : (first : Bool) (op : Operand) → joined (separator_pieces first op) ≡ separator first op
unfolding separator_pieces separator
separator-joined first AbsentOperand = refl
separator-joined true _ = refl
separator-joined false _ = refl

operand-joined : (style : Style) (bits : Bits) (row : Row) (instr : Instr) (n : ℕ) (op : Operand) → HasBrackets style
    → joined (operand_pieces style bits row instr n op) ≡ bracket_operand style bits row instr n op
unfolding operand_pieces far_pieces bracket_operand
operand-joined style bits row instr n AbsentOperand h = refl
operand-joined style bits row instr n (Reg r) h = register-joined style n r
operand-joined style bits row instr n (Imm x) h = append-nil (number style x)
operand-joined style bits row instr n (Near x) h = append-nil (number style x)
operand-joined style bits row instr n (Far selector offset) h =
    ap (λ (text : List ℕ). number style selector ++ text) (nil-behind (codes ":") (number style offset))
operand-joined style bits row instr n (MemOperand m) h =
    joined-both (size_pieces style row n) _ _ _ (size-joined style row n)
    (bracketed-joined style instr.seg (text_address_size bits instr) n m h)

part-joined : (style : Style) (bits : Bits) (row : Row) (instr : Instr) (n : ℕ) → HasBrackets style
    → joined (part_pieces style bits row instr n) ≡ operand_part style bits row instr n
unfolding part_pieces operand_part
part-joined style bits row instr n h =
    joined-both (separator_pieces (n == 0) (nth_operand instr n)) _ _ _ (separator-joined (n == 0) (nth_operand instr n))
    (operand-joined style bits row instr n (nth_operand instr n) h)

-- the whole text
pub bracket-joined : (style : Style) (bits : Bits) (row : Row) (name : List ℕ) (instr : Instr) → HasBrackets style
    → joined (bracket_pieces style bits row name instr) ≡ bracket_layout style bits row name instr
unfolding bracket_pieces bracket_layout
bracket-joined style bits row name instr h =
    joined-both (prefix_pieces bits row name instr) _ _ _ (prefix-joined bits row name instr)
    (joined-both (name_pieces bits name instr) (part_pieces style bits row instr 0 ++ (part_pieces style bits row instr 1 ++ (part_pieces style bits row instr 2 ++ part_pieces style bits row instr 3))) _ _ (name-joined bits name instr)
    (joined-both (part_pieces style bits row instr 0) _ _ _ (part-joined style bits row instr 0 h)
    (joined-both (part_pieces style bits row instr 1) _ _ _ (part-joined style bits row instr 1 h)
    (joined-both (part_pieces style bits row instr 2) _ _ _ (part-joined style bits row instr 2 h)
    (part-joined style bits row instr 3 h)))))
