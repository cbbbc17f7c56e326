-- Reading the whole text: prefix words, name and operands.
use Rattle.std.specs.Prelude.{ℕ, Bool, true, false, ◌&&◌, ◌||◌, ◌==◌, if◌then◌else◌, is_some, List, [], ◌∷◌, Option, Some, None, bytes_eq, codes}
use Rattle.x86_values.specs.declared.Bits.{Bits}
use Rattle.x86_values.specs.declared.Bits.TheVariants.{B16, B32, B64}
use Rattle.x86_values.specs.declared.Rep.{Rep}
use Rattle.x86_values.specs.declared.Rep.TheVariants.{None as NoRep, F2, F3}
use Rattle.intel_words.specs.declared.words.OperandText.{OperandText}
use Rattle.intel_words.specs.Scanning.{word, token, next_operand, skip_if}
use Rattle.intel_words.specs.ReadRegisters.{segment_of_word}
use Rattle.intel_words.specs.ReadAddresses.{operand_in}

-- ---- prefix words

-- the word of LOCK
unfoldable pub is_lock : List ℕ → Bool
is_lock name = bytes_eq name (codes "lock")

-- the repeat prefix of a word, none of another word
unfoldable pub repeat_prefix_of : List ℕ → Rep
repeat_prefix_of name = if bytes_eq name (codes "repne") then F2 else (if bytes_eq name (codes "rep") then F3 else NoRep)

-- there is a repeat prefix
unfoldable pub is_repeat_prefix : Rep → Bool
is_repeat_prefix NoRep = false
is_repeat_prefix F2 = true
is_repeat_prefix F3 = true

-- the size of two digits
unfoldable pub size_by : ℕ → ℕ → Option Bits
size_by b c =
    if b == 49 && c == 54 then Some B16 else (if b == 51 && c == 50 then Some B32 else (if b == 54 && c == 52 then Some B64 else None))

-- the size behind a letter
unfoldable pub size_behind : ℕ → List ℕ → Option Bits
size_behind letter [] = None
size_behind letter (a ∷ []) = None
size_behind letter (a ∷ b ∷ []) = None
size_behind letter (a ∷ b ∷ c ∷ []) = if a == letter then size_by b c else None
size_behind letter (a ∷ b ∷ c ∷ d ∷ more) = None

-- the word can stand in front of a name
unfoldable pub is_prefix_word : List ℕ → Bool
is_prefix_word name =
    is_lock name || (is_repeat_prefix (repeat_prefix_of name) || (is_some (segment_of_word name)
    || (is_some (size_behind 97 name) || is_some (size_behind 111 name))))

-- what stands behind the word of LOCK, if it is at the front
unfoldable pub behind_lock : List ℕ → List ℕ
behind_lock text = skip_if (is_lock (word text)) text

-- what stands behind the word of a repeat prefix, if it is at the front
unfoldable pub behind_repeat : List ℕ → List ℕ
behind_repeat text = skip_if (is_repeat_prefix (repeat_prefix_of (word text))) text

-- what stands behind the name of a segment, if it is at the front
unfoldable pub behind_segment : List ℕ → List ℕ
behind_segment text = skip_if (is_some (segment_of_word (word text))) text

-- what stands behind a letter with a size, as a32, if it is at the front
unfoldable pub behind_size_word : ℕ → List ℕ → List ℕ
behind_size_word letter text = skip_if (is_some (size_behind letter (word text))) text

-- ---- operands

-- the operands that stand at their places, where something was written to each
abbrev pub written_operands : Option (Unit {0}) → List OperandText → Option (List OperandText)
written_operands None places = None
written_operands (Some done) places = Some places

-- four operands together, where each was read
unfoldable pub four : Option OperandText → Option OperandText → Option OperandText → Option OperandText → Option (List OperandText)
four (Some a) (Some b) (Some c) (Some d) = Some (a ∷ b ∷ c ∷ d ∷ [])
four _ _ _ _ = None

-- the operands of a text behind the name and a space
unfoldable pub operands_in : List ℕ → Option (List OperandText)
operands_in text =
    let second = next_operand text in
    let third = next_operand second in
    let fourth = next_operand third in
    four (operand_in (token text)) (operand_in (token second)) (operand_in (token third)) (operand_in (token fourth))
