-- The size words of an instruction's text are those of its row.
use Rattle.std.proofs.Common.{◌≡◌, ◌⊎◌, inl, inr, ℕ, List, sym, ap, ◌∙◌}
use Rattle.x86_values.specs.declared.Bits.{Bits}
use Rattle.x86_values.specs.declared.Operand.{Operand}
use Rattle.x86_values.specs.declared.Operand.TheVariants.{Absent as AbsentOperand, Reg as RegOperand, Mem as MemOperand, Imm, Near, Far as FarOperand}
use Rattle.x86_values.specs.declared.Instr.{Instr}
use Rattle.instruction_parts.specs.declared.row_types.Row.{Row}
use Rattle.text_parts.specs.Layout.{nth_operand}
use Rattle.intel_words.specs.declared.words.AddressText.{AddressText}
use Rattle.intel_words.specs.declared.words.IntelWords.{IntelWords}
use Rattle.intel_words.specs.declared.words.OperandText.{OperandText}
use Rattle.intel_words.specs.declared.words.OperandText.TheVariants.{Mem as Address}
use Rattle.intel_words.specs.declared.words.SizeName.{SizeName}
use Rattle.intel_words.specs.declared.words.SizeName.TheVariants.{None as NoSize}
use Rattle.intel_words.specs.Words.{size_word_of, operand_of, nth_of, words_of}
use Rattle.intel_reader.specs.Candidate.{text_at}
use Rattle.intel_reader.specs.SizeWords.{IsSizedOtherwise, AreSizedOtherwise}

-- the size word of an operand's text, if it is an address
size_shown : OperandText → SizeName
size_shown (Address a) = a.size
size_shown _ = NoSize

-- an address that an instruction of a row shows has the size word of the row
pub shown_sized : (bits : Bits) (row : Row) (i : Instr) (n : ℕ) (o : Operand) (a : AddressText) → operand_of bits row i n o ≡ Address a → a.size ≡ size_word_of row n
unfolding operand_of size_shown size_word_of
shown_sized bits row i n AbsentOperand a h = absurd cc
shown_sized bits row i n (RegOperand r) a h = absurd cc
shown_sized bits row i n (Imm x) a h = absurd cc
shown_sized bits row i n (Near x) a h = absurd cc
shown_sized bits row i n (FarOperand selector offset) a h = absurd cc
shown_sized bits row i n (MemOperand m) a h = sym (ap size_shown h)

-- so operand n has no other
nth_sized : (bits : Bits) (row : Row) (i : Instr) (words : IntelWords) (n : ℕ) → text_at words n ≡ nth_of bits row i n → IsSizedOtherwise row words n → ⊥
nth_sized bits row i words n at s = s.1.1 (shown_sized bits row i n (nth_operand i n) s.0 (sym at ∙ s.1.0))

-- **words with another size word are of no instruction of the row**
pub sized_otherwise : (bits : Bits) (row : Row) (name : List ℕ) (i : Instr) (words : IntelWords) → words ≡ words_of bits row name i → AreSizedOtherwise row words → ⊥
unfolding words_of
sized_otherwise bits row name i words e (inl s) = nth_sized bits row i words 0 (ap (λ (w : IntelWords). text_at w 0) e) s
sized_otherwise bits row name i words e (inr (inl s)) = nth_sized bits row i words 1 (ap (λ (w : IntelWords). text_at w 1) e) s
sized_otherwise bits row name i words e (inr (inr (inl s))) = nth_sized bits row i words 2 (ap (λ (w : IntelWords). text_at w 2) e) s
sized_otherwise bits row name i words e (inr (inr (inr s))) = nth_sized bits row i words 3 (ap (λ (w : IntelWords). text_at w 3) e) s
