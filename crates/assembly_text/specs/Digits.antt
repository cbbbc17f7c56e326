-- The numbers that words name.
use Rattle.std.specs.Prelude.{ℕ, ◌+◌, ◌-◌, ◌*◌, ◌^◌, ◌==◌, Bool, ◌&&◌, nat_lt, if◌then◌else◌, List, [], ◌∷◌, length, take, drop, Option, Some, None}
use Rattle.text_parts.specs.declared.digit_values.LetterCase.TheVariants.{Lower}
use Rattle.text_parts.specs.DigitValues.{digit_value}
use Rattle.assembly_text.specs.Lines.{byte_at}

-- a number with a digit of a radix behind it, below 2^64
unfoldable pub with_digit : ℕ → ℕ → Option ℕ → Option ℕ
with_digit radix value None = None
with_digit radix value (Some d) =
    if nat_lt d radix && nat_lt (radix * value + d) (2 ^ 64) then Some (radix * value + d) else None

-- the value of some digits behind a number
unfoldable pub digits_behind : ℕ → Option ℕ → List ℕ → Option ℕ
digits_behind radix value [] = value
digits_behind radix None (c ∷ cs) = None
digits_behind radix (Some value) (c ∷ cs) = digits_behind radix (with_digit radix value (digit_value Lower c)) cs

-- the value of one digit or more
unfoldable pub digits_in : ℕ → List ℕ → Option ℕ
digits_in radix [] = None
digits_in radix (c ∷ cs) = digits_behind radix (Some 0) (c ∷ cs)

-- the last byte of a word, 0 of none
abbrev pub last_byte : List ℕ → ℕ
last_byte word = byte_at word (length word - 1)

-- a word without its last byte
abbrev pub front : List ℕ → List ℕ
front word = take (length word - 1) word

-- the word begins with 0 and this letter
abbrev pub has_mark : List ℕ → ℕ → Bool
has_mark word letter = byte_at word 0 == 48 && byte_at word 1 == letter

-- the number that a word names: `0x1f` and `1fh`, `0b101` and `101b`, or in decimal
unfoldable pub number_of_word : List ℕ → Option ℕ
number_of_word word =
    if has_mark word 120 then digits_in 16 (drop 2 word)
    else (if last_byte word == 104 then digits_in 16 (front word)
    else (if has_mark word 98 then digits_in 2 (drop 2 word)
    else (if last_byte word == 98 then digits_in 2 (front word) else digits_in 10 word)))
