-- The one instruction that the words of a text can be of, by its row, its address size and its displacement size.
use Rattle.std.specs.Prelude.{◌≡◌, ℕ, ◌<◌, ◌-◌, ◌%◌, ◌^◌, Bool, true, false, if◌then◌else◌, List, [], ◌∷◌, Option, Some, None, unwrap_or, slice_index_or}
use Rattle.x86_values.specs.declared.Bits.{Bits}
use Rattle.x86_values.specs.declared.Segment.{Segment}
use Rattle.x86_values.specs.declared.Register.TheVariants.{Eip, Rip}
use Rattle.x86_values.specs.declared.DispSize.{DispSize}
use Rattle.x86_values.specs.declared.Mem.{Mem}
use Rattle.x86_values.specs.declared.Operand.{Operand}
use Rattle.x86_values.specs.declared.Operand.TheVariants.{Absent as AbsentOperand, Reg as RegOperand, Mem as MemOperand, Imm, Near, Far as FarOperand}
use Rattle.x86_values.specs.declared.Code.{Code}
use Rattle.x86_values.specs.declared.Instr.{Instr}
use Rattle.x86_values.specs.Wrapping.{width, modulo_width}
use Rattle.instruction_parts.specs.declared.row_types.Row.{Row}
use Rattle.instruction_parts.specs.Kinds.{method_of}
use Rattle.row_fit.specs.Fits.{kind_at}
use Rattle.plain_spelling.specs.Forms.{operand_at}
use Rattle.intel_words.specs.declared.words.IntelWords.{IntelWords}
use Rattle.intel_reader.specs.Operands.{is_near}
use Rattle.intel_words.specs.declared.words.OperandText.{OperandText}
use Rattle.intel_words.specs.declared.words.OperandText.TheVariants.{Absent, Reg, Number, Far, Mem as Address}
use Rattle.intel_words.specs.declared.words.Inside.{Inside}
use Rattle.intel_words.specs.declared.words.Inside.TheVariants.{Nothing, Lone, Rel, Sum}
use Rattle.intel_words.specs.declared.words.SignedText.{SignedText}

-- ---- addresses

-- a number by its sign and its distance from zero, modulo 2 to the address size
unfoldable pub signed_number : Bits → Bool → ℕ → ℕ
signed_number asize true magnitude = modulo_width asize (2 ^ width asize - magnitude)
signed_number asize false magnitude = magnitude

-- the displacement beside a register; none is 0
unfoldable pub displacement_from : Bits → Option SignedText → ℕ
displacement_from asize None = 0
displacement_from asize (Some d) = signed_number asize d.negative d.magnitude

-- the address whose text has this inside its brackets, by its displacement size; a scale that does not stand there is 1
unfoldable pub address_from : Bits → DispSize → Inside → Mem
address_from asize size Nothing = record { base = None; index = None; scale = 1; disp_size = size; disp = 0 }
address_from asize size (Lone d) = record { base = None; index = None; scale = 1; disp_size = size; disp = d }
address_from asize size (Rel eip target) =
    record { base = Some (if eip then Eip else Rip); index = None; scale = 1; disp_size = size; disp = target }
address_from asize size (Sum s) =
    record { base = s.base; index = s.index; scale = unwrap_or s.scale 1; disp_size = size; disp = displacement_from asize s.disp }

-- ---- operands

-- operand n of the row is a near target
abbrev pub is_near_at : Row → ℕ → Bool
is_near_at row n = is_near (method_of (kind_at row n))

-- the operand of these words: a number is a near target or an immediate
unfoldable pub operand_from : Bool → Bits → DispSize → OperandText → Operand
operand_from near asize size Absent = AbsentOperand
operand_from near asize size (Reg r) = RegOperand r
operand_from near asize size (Number x) = if near then Near x else Imm x
operand_from near asize size (Far selector offset) = FarOperand (selector % 2 ^ 16) (offset % 2 ^ 32)
operand_from near asize size (Address a) = MemOperand (address_from asize size a.inside)

-- ---- the instruction

-- operand n of the words
abbrev pub text_at : IntelWords → ℕ → OperandText
text_at words n = slice_index_or words.ops n Absent

-- the operands of these words and of a row, with an address size and a displacement size
unfoldable pub operands_from : Row → IntelWords → Bits → DispSize → List Operand
operands_from row words asize size =
    let op : ℕ → Operand = λ n. operand_from (is_near_at row n) asize size (text_at words n) in
    op 0 ∷ op 1 ∷ op 2 ∷ op 3 ∷ []

-- the segment in front of an address, else another
unfoldable pub segment_or : OperandText → Option Segment → Option Segment
segment_or (Address a) other = a.seg
segment_or _ other = other

-- the segment in front of the first address, or the one that stands as a word where there is no address
unfoldable pub segment_from : IntelWords → Option Segment
segment_from words =
    segment_or (text_at words 0) (segment_or (text_at words 1) (segment_or (text_at words 2) (segment_or (text_at words 3) words.seg)))

-- the instruction of these words, of a row and its code, with an address size that it may have, and this displacement size in its address
unfoldable pub candidate : Bits → Row → Code → IntelWords → Option Bits → DispSize → Instr
candidate bits row code words asize size =
    let op : ℕ → Operand = λ n. operand_from (is_near_at row n) (unwrap_or asize bits) size (text_at words n) in
    record {
      code = code;
      lock = words.lock;
      rep = words.rep;
      seg = segment_from words;
      asize = asize;
      ops = op 0 ∷ op 1 ∷ op 2 ∷ op 3 ∷ [];
    }

-- each address of the instruction has this displacement size
abbrev pub HasSize : DispSize → Instr → Type 0
HasSize size i = (n : ℕ) → n < 4 → (m : Mem) → operand_at i n ≡ MemOperand m → m.disp_size ≡ size
