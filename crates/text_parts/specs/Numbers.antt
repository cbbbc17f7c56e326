-- Numbers in a text.
use Rattle.std.specs.Prelude.{ℕ, zero, suc, ◌+◌, ◌-◌, ◌*◌, ◌/◌, ◌%◌, ◌^◌, max, nat_lt, if◌then◌else◌, List, [], ◌∷◌, ◌++◌, codes}
use Rattle.std.specs.Int.{leading_zeros, w64}
use Rattle.text_parts.specs.declared.style.Style.{Style}
use Rattle.text_parts.specs.declared.style.Style.TheVariants.{Masm}

-- the ASCII code of a hexadecimal digit, in lower case
unfoldable pub hex_digit : ℕ → ℕ
hex_digit d = if nat_lt d 10 then 48 + d else 87 + d

-- the hexadecimal digit at a position, counted from the last
unfoldable pub digit_at : ℕ → ℕ → ℕ
digit_at n position = n / 2 ^ (4 * position) % 16

-- the last k hexadecimal digits
unfoldable pub last_digits : ℕ → ℕ → List ℕ
last_digits zero n = []
last_digits (suc k) n = hex_digit (digit_at n k) ∷ last_digits k n

-- how many hexadecimal digits a number of 64 bits has without leading zeros; 0 has one
unfoldable pub digit_count : ℕ → ℕ
digit_count n = max 1 ((67 - leading_zeros w64 n) / 4)

-- a number in hexadecimal without leading zeros
unfoldable pub hexadecimal : ℕ → List ℕ
hexadecimal n = last_digits (digit_count n) n

-- a 0 in front of a leading letter, so that a number begins with a digit
unfoldable pub leading_zero : ℕ → List ℕ
leading_zero n = if nat_lt (digit_at n (digit_count n - 1)) 10 then [] else codes "0"

-- a number: 0x1f, and in MASM 1fh
unfoldable pub number : Style → ℕ → List ℕ
number Masm n = leading_zero n ++ (hexadecimal n ++ codes "h")
number _ n = codes "0x" ++ hexadecimal n

-- a number below 100 in decimal digits
unfoldable pub decimal : ℕ → List ℕ
decimal n = if nat_lt n 10 then (48 + n) ∷ [] else (48 + n / 10) ∷ (48 + n % 10) ∷ []
