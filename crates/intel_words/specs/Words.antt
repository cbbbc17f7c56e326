-- The words that the Intel text of an instruction shows.
use Rattle.std.specs.Prelude.{ℕ, Bool, true, false, ◌==◌, if◌then◌else◌, List, [], ◌∷◌, Option, Some, None}
use Rattle.x86_values.specs.declared.Bits.{Bits}
use Rattle.x86_values.specs.declared.Bits.TheVariants.{B16}
use Rattle.x86_values.specs.declared.Segment.{Segment}
use Rattle.x86_values.specs.declared.Register.{Register}
use Rattle.x86_values.specs.declared.Register.TheVariants.{Eip}
use Rattle.x86_values.specs.declared.DispSize.TheVariants.{D0}
use Rattle.x86_values.specs.declared.Mem.{Mem}
use Rattle.x86_values.specs.declared.Operand.{Operand}
use Rattle.x86_values.specs.declared.Operand.TheVariants.{Absent as AbsentOperand, Reg as RegOperand, Mem as MemOperand, Imm, Near, Far as FarOperand}
use Rattle.x86_values.specs.declared.Instr.{Instr}
use Rattle.instruction_parts.specs.declared.row_types.Row.{Row}
use Rattle.instruction_parts.specs.declared.row_types.Size.{Size}
use Rattle.instruction_parts.specs.declared.row_types.Size.TheVariants.{O16, O64}
use Rattle.row_fit.specs.Fits.{kind_at}
use Rattle.row_meaning.specs.MemorySize.{memory_size}
use Rattle.text_parts.specs.Addresses.{is_relative, is_absolute, is_negative, magnitude}
use Rattle.text_parts.specs.PrefixWords.{shows_memory, needs_address_word, is_sized, named_size, differs, usual_size, text_address_size}
use Rattle.text_parts.specs.Layout.{is_far_pointer, nth_operand}
use Rattle.intel_words.specs.declared.words.IntelWords.{IntelWords}
use Rattle.intel_words.specs.declared.words.OperandText.{OperandText}
use Rattle.intel_words.specs.declared.words.OperandText.TheVariants.{Absent, Reg, Number, Far, Mem as Address}
use Rattle.intel_words.specs.declared.words.SizeName.{SizeName}
use Rattle.intel_words.specs.declared.words.SizeName.TheVariants.{None as NoSize, Byte, Word, Dword, Qword, Tbyte, Xmmword, Ymmword, Far16, Far32, Far64}
use Rattle.intel_words.specs.declared.words.Inside.{Inside}
use Rattle.intel_words.specs.declared.words.Inside.TheVariants.{Nothing, Lone, Rel, Sum}
use Rattle.intel_words.specs.declared.words.SumText.{SumText}
use Rattle.intel_words.specs.declared.words.SignedText.{SignedText}

-- ---- prefix words

-- the segment, where no operand is memory
unfoldable pub segment_of : Instr → Option Segment
segment_of instr = if shows_memory instr then None else instr.seg

-- the address size, where it has a word
unfoldable pub address_size_of : Bits → List ℕ → Instr → Option Bits
address_size_of bits name instr =
    elim instr.asize [
      | None ↦ None
      | Some size ↦ if needs_address_word bits size name instr then Some size else None
    ]

-- the operand size, where it has a word
unfoldable pub operand_size_of : Bits → Row → Option Bits
operand_size_of bits row =
    if is_sized row then
    (elim (named_size row.size) [
      | None ↦ None
      | Some size ↦ if differs size (usual_size bits row) then Some size else None
    ])
    else None

-- ---- addresses

-- the size word of so many bytes
unfoldable pub size_of_bytes : ℕ → SizeName
size_of_bytes n =
    if n == 1 then Byte else (if n == 2 then Word else (if n == 4 then Dword else (if n == 8 then Qword
    else (if n == 10 then Tbyte else (if n == 16 then Xmmword else (if n == 32 then Ymmword else NoSize))))))

-- the size word of a far pointer in memory
unfoldable pub size_of_far : Size → SizeName
size_of_far O16 = Far16
size_of_far O64 = Far64
size_of_far _ = Far32

-- the size word of operand n of the row
unfoldable pub size_word_of : Row → ℕ → SizeName
size_word_of row n = if is_far_pointer (kind_at row n) then size_of_far row.size else size_of_bytes (memory_size row)

-- the base is EIP
unfoldable pub is_eip : Option Register → Bool
is_eip (Some Eip) = true
is_eip _ = false

-- a displacement that stands alone
unfoldable pub lone_of : Mem → Inside
lone_of m = elim m.disp_size [ D0 ↦ Nothing | _ ↦ Lone m.disp ]

-- a displacement beside a register
unfoldable pub signed_of : Bits → Mem → Option SignedText
signed_of asize m =
    elim m.disp_size [ D0 ↦ None | _ ↦ Some (record { negative = is_negative asize m.disp; magnitude = magnitude asize m.disp }) ]

-- the scale of an index, which 16-bit addressing does not have
unfoldable pub shown_scale : Bits → Mem → Option ℕ
shown_scale B16 m = None
shown_scale _ m = elim m.index [ None ↦ None | Some r ↦ Some m.scale ]

-- registers and displacement
unfoldable pub sum_of : Bits → Mem → SumText
sum_of asize m = record { base = m.base; index = m.index; scale = shown_scale asize m; disp = signed_of asize m }

-- what stands inside the brackets
unfoldable pub inside_of : Bits → Mem → Inside
inside_of asize m =
    if is_relative m then Rel (is_eip m.base) m.disp
    else (if is_absolute m then lone_of m else Sum (sum_of asize m))

-- ---- operands

-- what operand n shows
unfoldable pub operand_of : Bits → Row → Instr → ℕ → Operand → OperandText
operand_of bits row instr n AbsentOperand = Absent
operand_of bits row instr n (RegOperand r) = Reg r
operand_of bits row instr n (Imm x) = Number x
operand_of bits row instr n (Near x) = Number x
operand_of bits row instr n (FarOperand selector offset) = Far selector offset
operand_of bits row instr n (MemOperand m) =
    Address (record { size = size_word_of row n; seg = instr.seg; inside = inside_of (text_address_size bits instr) m })

-- the words of operand n
abbrev pub nth_of : Bits → Row → Instr → ℕ → OperandText
nth_of bits row instr n = operand_of bits row instr n (nth_operand instr n)

-- ---- the whole text

-- the words that the text of an instruction of a row with this name shows besides its name
unfoldable pub words_of : Bits → Row → List ℕ → Instr → IntelWords
words_of bits row name instr = record {
  lock = instr.lock;
  rep = instr.rep;
  seg = segment_of instr;
  asize = address_size_of bits name instr;
  osize = operand_size_of bits row;
  ops = nth_of bits row instr 0 ∷ nth_of bits row instr 1 ∷ nth_of bits row instr 2 ∷ nth_of bits row instr 3 ∷ [];
}
