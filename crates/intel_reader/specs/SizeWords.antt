-- The size words of a text, as far as they tell that a row has no such text.
use Rattle.std.specs.Prelude.{◌≡◌, ◌⊎◌, ℕ}
use Rattle.instruction_parts.specs.declared.row_types.Row.{Row}
use Rattle.intel_words.specs.declared.words.AddressText.{AddressText}
use Rattle.intel_words.specs.declared.words.IntelWords.{IntelWords}
use Rattle.intel_words.specs.declared.words.OperandText.TheVariants.{Mem as Address}
use Rattle.intel_words.specs.Words.{size_word_of}
use Rattle.intel_reader.specs.Candidate.{text_at}

-- operand n is an address with another size word than that of the row
abbrev pub IsSizedOtherwise : Row → IntelWords → ℕ → Type 0
IsSizedOtherwise row words n = (a : AddressText) × ((text_at words n ≡ Address a) × (a.size ≡ size_word_of row n → ⊥))

-- one of the operands is
abbrev pub AreSizedOtherwise : Row → IntelWords → Type 0
AreSizedOtherwise row words =
    IsSizedOtherwise row words 0 ⊎ (IsSizedOtherwise row words 1 ⊎ (IsSizedOtherwise row words 2 ⊎ IsSizedOtherwise row words 3))
