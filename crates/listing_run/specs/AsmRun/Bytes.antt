-- The digits of a single byte, read one by one.
use Rattle.std.specs.Prelude.{ℕ, ◌+◌, ◌*◌, ◌==◌, if◌then◌else◌, List, [], ◌∷◌, Option, Some, None}
use Rattle.text_parts.specs.declared.digit_values.LetterCase.TheVariants.{Lower}
use Rattle.text_parts.specs.DigitValues.{digit_value}

-- the number of two digits, the first of which is not 0
unfoldable pub two_digits : Option ℕ → Option ℕ → Option ℕ
two_digits (Some high) (Some low) = if high == 0 then None else Some (16 * high + low)
two_digits _ _ = None

-- the byte of one or two lower-case digits without leading zeros
unfoldable pub byte_of_digits : List ℕ → Option ℕ
byte_of_digits (low ∷ []) = digit_value Lower low
byte_of_digits (high ∷ (low ∷ [])) = two_digits (digit_value Lower high) (digit_value Lower low)
byte_of_digits _ = None
