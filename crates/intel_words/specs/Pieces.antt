-- A text in pieces: what stands in front of its operands, and each operand. One of them is an address, for which a size word is still sought.
use Rattle.std.specs.Prelude.{ℕ, Bool, true, false, not, ◌&&◌, ◌||◌, ◌==◌, if◌then◌else◌, List, [], ◌∷◌, ◌++◌, codes, Option, Some, None, slice_index_or}
use Rattle.std.specs.List.{list_all}
use Rattle.intel_words.specs.declared.words.IntelWords.{IntelWords}
use Rattle.intel_words.specs.declared.words.OperandText.{OperandText}
use Rattle.intel_words.specs.declared.words.OperandText.TheVariants.{Absent, Mem as Address}
use Rattle.intel_words.specs.declared.words.SizeName.{SizeName}
use Rattle.intel_words.specs.declared.words.SizeName.TheVariants.{None as NoSize, Byte, Word, Dword, Qword, Tbyte, Xmmword, Ymmword, Far16, Far32, Far64}
use Rattle.intel_words.specs.Scanning.{is_no_comma, word, rest_behind}
use Rattle.intel_words.specs.ReadRegisters.{segment_of_word}
use Rattle.intel_words.specs.ReadAddresses.{operand_in}
use Rattle.intel_words.specs.ReadWords.{is_lock, repeat_prefix_of, size_behind, behind_lock, behind_repeat, behind_segment, behind_size_word, four}

-- ---- the text

-- a piece behind what separates it; nothing where it has no bytes
unfoldable pub piece_text : List ℕ → List ℕ → List ℕ
piece_text between [] = []
piece_text between (c ∷ cs) = between ++ c ∷ cs

-- the text of a head, a space, and the operands with a comma and a space between them
unfoldable pub pieces_text : List ℕ → List ℕ → List ℕ → List ℕ → List ℕ → List ℕ
pieces_text head a b c d = head ++ (piece_text (codes " ") a ++ (piece_text (codes ", ") b ++ (piece_text (codes ", ") c ++ piece_text (codes ", ") d)))

-- the word of a size, with a space
unfoldable pub size_front : SizeName → List ℕ
size_front NoSize = []
size_front Byte = codes "byte "
size_front Word = codes "word "
size_front Dword = codes "dword "
size_front Qword = codes "qword "
size_front Tbyte = codes "tbyte "
size_front Xmmword = codes "xmmword "
size_front Ymmword = codes "ymmword "
size_front Far16 = codes "far16 "
size_front Far32 = codes "far32 "
size_front Far64 = codes "far64 "

-- operand k, with the size word in front if it is operand n
unfoldable pub sized_piece : SizeName → ℕ → ℕ → List ℕ → List ℕ
sized_piece size n k piece = if n == k then size_front size ++ piece else piece

-- the text with the size word in front of operand n
unfoldable pub sized_pieces_text : SizeName → ℕ → List ℕ → List ℕ → List ℕ → List ℕ → List ℕ → List ℕ
sized_pieces_text size n head a b c d = pieces_text head (sized_piece size n 0 a) (sized_piece size n 1 b) (sized_piece size n 2 c) (sized_piece size n 3 d)

-- ---- its words

-- an address with this size word; other operands stay
unfoldable pub sized_operand : SizeName → OperandText → OperandText
sized_operand size (Address address) = Address (record address { size = size })
sized_operand size other = other

-- operand k of the words, with the size word if it is operand n
unfoldable pub sized_nth : SizeName → ℕ → ℕ → IntelWords → OperandText
sized_nth size n k words = if n == k then sized_operand size (slice_index_or words.ops k Absent) else slice_index_or words.ops k Absent

-- the words with the size word at operand n
unfoldable pub sized_words : SizeName → ℕ → IntelWords → IntelWords
sized_words size n words = record words { ops = sized_nth size n 0 words ∷ sized_nth size n 1 words ∷ sized_nth size n 2 words ∷ sized_nth size n 3 words ∷ [] }

-- there is no size word
unfoldable pub has_no_size_word : SizeName → Bool
has_no_size_word NoSize = true
has_no_size_word _ = false

-- the operand is an address without a size word
unfoldable pub is_unsized : OperandText → Bool
is_unsized (Address address) = has_no_size_word address.size
is_unsized other = false

-- ---- what is asked of the pieces

-- a piece has bytes
unfoldable pub is_there : List ℕ → Bool
is_there [] = false
is_there (c ∷ cs) = true

-- no operand has a comma in it
unfoldable pub are_commaless : List ℕ → List ℕ → List ℕ → List ℕ → Bool
are_commaless a b c d = list_all is_no_comma a && (list_all is_no_comma b && (list_all is_no_comma c && list_all is_no_comma d))

-- there is a first operand, and none follows one that is none
unfoldable pub are_leading : List ℕ → List ℕ → List ℕ → List ℕ → Bool
are_leading a b c d = is_there a && ((is_there b || not (is_there c)) && (is_there c || not (is_there d)))

-- the operands of the pieces, where each can be read
unfoldable pub operands_of_pieces : List ℕ → List ℕ → List ℕ → List ℕ → Option (List OperandText)
operands_of_pieces a b c d = four (operand_in a) (operand_in b) (operand_in c) (operand_in d)

-- the name of a head and what stands behind it, from its prefix words on
unfoldable pub behind_words : List ℕ → List ℕ
behind_words head = behind_size_word 111 (behind_size_word 97 (behind_segment (behind_repeat (behind_lock head))))

-- the name of a head
abbrev pub name_of_head : List ℕ → List ℕ
name_of_head head = word (behind_words head)

-- a head ends with its name
unfoldable pub ends_in_name : List ℕ → Bool
ends_in_name head = not (is_there (rest_behind (behind_words head))) && is_there (name_of_head head)

-- operand n, if the operands were read, is an address without a size word
unfoldable pub is_unsized_in : ℕ → Option (List OperandText) → Bool
is_unsized_in n None = false
is_unsized_in n (Some ops) = is_unsized (slice_index_or ops n Absent)

-- the pieces are those of a text, and operand n is an address without a size word
unfoldable pub is_told : ℕ → List ℕ → List ℕ → List ℕ → List ℕ → List ℕ → Bool
is_told n head a b c d = are_commaless a b c d && (are_leading a b c d && (ends_in_name head && is_unsized_in n (operands_of_pieces a b c d)))

-- the operands that were read
unfoldable pub read_operands : Option (List OperandText) → List OperandText
read_operands None = []
read_operands (Some ops) = ops

-- the words of the pieces
unfoldable pub words_of_pieces : List ℕ → List ℕ → List ℕ → List ℕ → List ℕ → IntelWords
words_of_pieces head a b c d = record {
  lock = is_lock (word head);
  rep = repeat_prefix_of (word (behind_lock head));
  seg = segment_of_word (word (behind_repeat (behind_lock head)));
  asize = size_behind 97 (word (behind_segment (behind_repeat (behind_lock head))));
  osize = size_behind 111 (word (behind_size_word 97 (behind_segment (behind_repeat (behind_lock head)))));
  ops = read_operands (operands_of_pieces a b c d);
}
