-- Cutting a text: words, operands, and single bytes.
use Rattle.std.specs.Prelude.{ℕ, Bool, true, false, not, ◌&&◌, ◌||◌, ◌==◌, nat_le, if◌then◌else◌, List, [], ◌∷◌}

-- a lower-case letter or a digit
unfoldable pub is_word_byte : ℕ → Bool
is_word_byte c = (nat_le 97 c && nat_le c 122) || (nat_le 48 c && nat_le c 57)

-- the bytes in front of the first that fails a test
unfoldable pub front_while : (ℕ → Bool) → List ℕ → List ℕ
front_while p [] = []
front_while p (c ∷ cs) = if p c then c ∷ front_while p cs else []

-- the bytes from the first that fails a test on
unfoldable pub back : (ℕ → Bool) → List ℕ → List ℕ
back p [] = []
back p (c ∷ cs) = if p c then back p cs else c ∷ cs

-- the first byte, 0 of none
unfoldable pub first : List ℕ → ℕ
first [] = 0
first (c ∷ cs) = c

-- all but the first byte
unfoldable pub rest : List ℕ → List ℕ
rest [] = []
rest (c ∷ cs) = cs

-- the word at the front
abbrev pub word : List ℕ → List ℕ
word text = front_while is_word_byte text

-- what stands behind that word
abbrev pub rest_behind : List ℕ → List ℕ
rest_behind text = back is_word_byte text

-- a byte inside an operand
unfoldable pub is_no_comma : ℕ → Bool
is_no_comma c = not (c == 44)

-- the operand at the front
abbrev pub token : List ℕ → List ℕ
token text = front_while is_no_comma text

-- the text of the next operand, behind a comma and a space
abbrev pub next_operand : List ℕ → List ℕ
next_operand text = rest (rest (back is_no_comma text))

-- what stands behind a word and the byte that ends it, where the word is passed
unfoldable pub skip_if : Bool → List ℕ → List ℕ
skip_if true text = rest (rest_behind text)
skip_if false text = text
