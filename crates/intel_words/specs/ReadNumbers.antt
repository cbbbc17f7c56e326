-- Reading numbers.
use Rattle.std.specs.Prelude.{ℕ, ◌+◌, ◌-◌, ◌*◌, Bool, not, ◌&&◌, ◌||◌, ◌==◌, nat_le, nat_lt, if◌then◌else◌, List, [], ◌∷◌, length, Option, Some, None}
use Rattle.text_parts.specs.declared.digit_values.LetterCase.TheVariants.{Lower}
use Rattle.text_parts.specs.DigitValues.{digits_from}
use Rattle.intel_words.specs.Scanning.{first, rest}

-- 1 to 16 bytes, of which the first is no 0 unless it is the only one
unfoldable pub has_digit_form : List ℕ → Bool
has_digit_form digits = nat_lt 0 (length digits) && (nat_le (length digits) 16 && (length digits == 1 || not (first digits == 48)))

-- the number that 1 to 16 hexadecimal digits without leading zeros name
unfoldable pub number_in : List ℕ → Option ℕ
number_in digits = if has_digit_form digits then digits_from Lower 0 digits else None

-- the number that a word names: 0x and its digits
unfoldable pub number_named : List ℕ → Option ℕ
number_named word = if first word == 48 && first (rest word) == 120 then number_in (rest (rest word)) else None

-- the value of a decimal digit
unfoldable pub decimal_digit : ℕ → Option ℕ
decimal_digit c = if nat_le 48 c && nat_le c 57 then Some (c - 48) else None

-- 10 to 15 by the digit behind the 1
unfoldable pub teen : ℕ → Option ℕ
teen c = if nat_le 48 c && nat_le c 53 then Some (c - 38) else None

-- a number from 0 to 15 in decimal
unfoldable pub decimal_in : List ℕ → Option ℕ
decimal_in [] = None
decimal_in (c ∷ []) = decimal_digit c
decimal_in (c ∷ d ∷ []) = if c == 49 then teen d else None
decimal_in (c ∷ d ∷ e ∷ more) = None
