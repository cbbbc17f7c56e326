-- The number that hexadecimal digits name.
use Rattle.std.specs.Prelude.{ℕ, ◌+◌, ◌-◌, ◌*◌, ◌&&◌, nat_le, if◌then◌else◌, List, [], ◌∷◌, Option, Some, None}
use Rattle.text_parts.specs.declared.digit_values.LetterCase.{LetterCase}
use Rattle.text_parts.specs.declared.digit_values.LetterCase.TheVariants.{Lower, Either}

-- the value of A to F, which are 65 to 70, where letters may be of either case
unfoldable pub upper_value : LetterCase → ℕ → Option ℕ
upper_value Lower c = None
upper_value Either c = if nat_le 65 c && nat_le c 70 then Some (c - 55) else None

-- the value of a hexadecimal digit: 0 to 9 are 48 to 57, a to f are 97 to 102
unfoldable pub digit_value : LetterCase → ℕ → Option ℕ
digit_value letters c =
    if nat_le 48 c && nat_le c 57 then Some (c - 48) else (if nat_le 97 c && nat_le c 102 then Some (c - 87) else upper_value letters c)

-- a number and the digits behind it, where all are digits
unfoldable pub digits_from : LetterCase → ℕ → List ℕ → Option ℕ
digits_from letters value [] = Some value
digits_from letters value (c ∷ digits) = elim (digit_value letters c) [ None ↦ None | Some d ↦ digits_from letters (16 * value + d) digits ]
