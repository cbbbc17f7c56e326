-- Operands, and the whole text of an instruction in the styles with brackets.
use Rattle.std.specs.Prelude.{ℕ, ◌+◌, Bool, true, false, ◌==◌, nat_le, if◌then◌else◌, List, [], ◌∷◌, ◌++◌, slice_index_or, codes}
use Rattle.x86_values.specs.declared.Bits.{Bits}
use Rattle.x86_values.specs.declared.Operand.{Operand}
use Rattle.x86_values.specs.declared.Operand.TheVariants.{Absent as AbsentOperand, Reg, Mem as MemOperand, Imm, Near, Far}
use Rattle.x86_values.specs.declared.Instr.{Instr}
use Rattle.instruction_parts.specs.declared.row_types.Row.{Row}
use Rattle.instruction_parts.specs.declared.row_types.Size.{Size}
use Rattle.instruction_parts.specs.declared.row_types.Size.TheVariants.{O16, O64}
use Rattle.instruction_parts.specs.declared.row_types.OpKind.{OpKind}
use Rattle.instruction_parts.specs.declared.row_types.OpKind.TheVariants.{Mf}
use Rattle.row_fit.specs.Fits.{kind_at}
use Rattle.row_meaning.specs.MemorySize.{memory_size}
use Rattle.text_parts.specs.declared.style.Style.{Style}
use Rattle.text_parts.specs.declared.style.Style.TheVariants.{Masm}
use Rattle.text_parts.specs.Numbers.{number}
use Rattle.text_parts.specs.Registers.{register}
use Rattle.text_parts.specs.Addresses.{bracketed_address}
use Rattle.text_parts.specs.PrefixWords.{text_address_size, prefix_words, name_text}

-- ---- size words

-- the word of a size in bytes; 0 has none
unfoldable pub size_name : ℕ → List ℕ
size_name n =
    if n == 1 then codes "byte" else (if n == 2 then codes "word" else (if n == 4 then codes "dword"
    else (if n == 8 then codes "qword" else (if n == 10 then codes "tbyte" else (if n == 16 then codes "xmmword"
    else (if n == 32 then codes "ymmword" else []))))))

-- a far pointer in memory, by the size of its offset
unfoldable pub far_name : Size → List ℕ
far_name O16 = codes "far16"
far_name O64 = codes "far64"
far_name _ = codes "far32"

-- the kind is a far pointer in memory
unfoldable pub is_far_pointer : OpKind → Bool
is_far_pointer Mf = true
is_far_pointer _ = false

-- the size of what operand n of the row has in memory
unfoldable pub operand_size_name : Row → ℕ → List ℕ
operand_size_name row n =
    if is_far_pointer (kind_at row n) then far_name row.size else size_name (memory_size row)

-- a size name and what stands behind it; MASM adds ptr
unfoldable pub behind_size : Style → List ℕ → List ℕ
behind_size style [] = []
behind_size Masm (c ∷ cs) = codes " ptr "
behind_size _ (c ∷ cs) = codes " "

-- the size of what operand n of the row has in memory, in the words of a style
unfoldable pub size_word : Style → Row → ℕ → List ℕ
size_word style row n = operand_size_name row n ++ behind_size style (operand_size_name row n)

-- ---- operands

-- operand n
abbrev pub nth_operand : Instr → ℕ → Operand
nth_operand instr n = slice_index_or instr.ops n AbsentOperand

-- what stands in front of an operand: a space before the first, a comma before the others
unfoldable pub separator : Bool → Operand → List ℕ
separator first AbsentOperand = []
separator true _ = codes " "
separator false _ = codes ", "

-- an operand in a style with brackets
unfoldable pub bracket_operand : Style → Bits → Row → Instr → ℕ → Operand → List ℕ
bracket_operand style bits row instr n AbsentOperand = []
bracket_operand style bits row instr n (Reg r) = register style r
bracket_operand style bits row instr n (Imm x) = number style x
bracket_operand style bits row instr n (Near x) = number style x
bracket_operand style bits row instr n (Far selector offset) =
    number style selector ++ (codes ":" ++ number style offset)
bracket_operand style bits row instr n (MemOperand m) =
    size_word style row n ++ bracketed_address style instr.seg (text_address_size bits instr) m

-- operand n with what stands in front of it
unfoldable pub operand_part : Style → Bits → Row → Instr → ℕ → List ℕ
operand_part style bits row instr n =
    separator (n == 0) (nth_operand instr n) ++ bracket_operand style bits row instr n (nth_operand instr n)

-- ---- the whole text

-- prefix words, the name, and the operands in their order
unfoldable pub bracket_layout : Style → Bits → Row → List ℕ → Instr → List ℕ
bracket_layout style bits row name instr =
    prefix_words bits row name instr
    ++ (name_text bits name instr
    ++ (operand_part style bits row instr 0
    ++ (operand_part style bits row instr 1
    ++ (operand_part style bits row instr 2 ++ operand_part style bits row instr 3))))

-- ---- texts that are short

-- memory and far pointers have long texts
unfoldable pub is_long : Operand → Bool
is_long (MemOperand m) = true
is_long (Far selector offset) = true
is_long _ = false

-- 1 where operand n is long
abbrev pub long_at : Instr → ℕ → ℕ
long_at instr n = if is_long (nth_operand instr n) then 1 else 0

-- at most one operand is memory or a far pointer
unfoldable pub has_one_long : Instr → Bool
has_one_long instr = nat_le (long_at instr 0 + (long_at instr 1 + (long_at instr 2 + long_at instr 3))) 1
