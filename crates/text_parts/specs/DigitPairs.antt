-- The hexadecimal digits of a byte, two at a time.
use Rattle.std.specs.Prelude.{ℕ, ◌/◌, ◌%◌, List, [], ◌∷◌}
use Rattle.text_parts.specs.declared.digit_pairs.TheConstants.{PAIRS}
use Rattle.text_parts.specs.Numbers.{hex_digit}

-- the two digits of a byte, the high one first
unfoldable pub digit_pair : ℕ → List ℕ
digit_pair byte = hex_digit (byte / 16) ∷ hex_digit (byte % 16) ∷ []

-- the digits of each byte as they lie in the table
unfoldable pub pairs : List (List ℕ)
pairs = PAIRS
