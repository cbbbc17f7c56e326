-- Sets of size words, and those that the rows of the table have at an operand.
use Rattle.std.specs.Prelude.{◌≡◌, ℕ, ◌<◌, Bool, true, false, List, Some, slice_get}
use Rattle.x86_values.specs.declared.Bits.{Bits}
use Rattle.instruction_parts.specs.declared.row_types.Row.{Row}
use Rattle.opcode_rows.specs.declared.generated_spots.TheConstants.{ROWS}
use Rattle.opcode_rows.specs.Table.{table, name_of}
use Rattle.intel_words.specs.declared.words.IntelWords.{IntelWords}
use Rattle.intel_words.specs.declared.words.SizeName.{SizeName}
use Rattle.intel_words.specs.declared.words.SizeName.TheVariants.{None as NoSize, Byte, Word, Dword, Qword, Tbyte, Xmmword, Ymmword, Far16, Far32, Far64}
use Rattle.intel_words.specs.Pieces.{name_of_head, is_told, words_of_pieces}
use Rattle.intel_words.specs.Words.{size_word_of}
use Rattle.intel_reader.specs.declared.sizes.SizeSet.{SizeSet}
use Rattle.intel_reader.specs.Buckets.{order}
use Rattle.intel_reader.specs.Possible.{is_counter_word, takes_words}

-- ---- sets

-- the size word is in the set
unfoldable pub has_size : SizeSet → SizeName → Bool
has_size set NoSize = set.none
has_size set Byte = set.byte
has_size set Word = set.word
has_size set Dword = set.dword
has_size set Qword = set.qword
has_size set Tbyte = set.tbyte
has_size set Xmmword = set.xmmword
has_size set Ymmword = set.ymmword
has_size set Far16 = set.far16
has_size set Far32 = set.far32
has_size set Far64 = set.far64

-- the set with a size word besides its own
unfoldable pub with_size : SizeSet → SizeName → SizeSet
with_size set NoSize = record set { none = true }
with_size set Byte = record set { byte = true }
with_size set Word = record set { word = true }
with_size set Dword = record set { dword = true }
with_size set Qword = record set { qword = true }
with_size set Tbyte = record set { tbyte = true }
with_size set Xmmword = record set { xmmword = true }
with_size set Ymmword = record set { ymmword = true }
with_size set Far16 = record set { far16 = true }
with_size set Far32 = record set { far32 = true }
with_size set Far64 = record set { far64 = true }

-- ---- rows

-- the row of the code at an index has this name, and this size word at operand n
pub record IsSizeAt (index : ℕ) (name : List ℕ) (n : ℕ) (size : SizeName) : Type 0 where
  pub code : ℕ
  pub row : Row
  pub below : code < ROWS
  pub at : slice_get order index ≡ Some code
  pub row_is : slice_get table code ≡ Some row
  pub named : name_of code ≡ name
  pub sized : size_word_of row n ≡ size

-- a row of this name exists in the mode, takes operands of the classes of these words, and has this size word at operand n
pub record IsRowSize (bits : Bits) (words : IntelWords) (name : List ℕ) (n : ℕ) (size : SizeName) : Type 0 where
  pub code : ℕ
  pub row : Row
  pub below : code < ROWS
  pub row_is : slice_get table code ≡ Some row
  pub named : name_of code ≡ name
  pub takes : takes_words bits row words ≡ true
  pub sized : size_word_of row n ≡ size

-- the size word is that of such a row, where the pieces of a text tell their words, and the name is none of the jump on the counter
abbrev pub IsPossibleSize : Bits → ℕ → List ℕ → List ℕ → List ℕ → List ℕ → List ℕ → SizeName → Type 0
IsPossibleSize bits n head a b c d size =
    is_told n head a b c d ≡ true → is_counter_word (name_of_head head) ≡ false → IsRowSize bits (words_of_pieces head a b c d) (name_of_head head) n size
