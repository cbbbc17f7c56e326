-- Numbers of so many bytes as signed numbers.
use Rattle.std.specs.Prelude.{ℕ, ◌-◌, ◌+◌, ◌*◌, ◌%◌, ◌^◌, Bool, ◌==◌, nat_le, if◌then◌else◌}

-- the number of so many bytes that has only the sign bit
unfoldable pub sign_bit : ℕ → ℕ
sign_bit width = if width == 1 then 2 ^ 7 else (if width == 2 then 2 ^ 15 else (if width == 4 then 2 ^ 31 else 2 ^ 63))

-- the low bytes of a number, so many of them
unfoldable pub low : ℕ → ℕ → ℕ
low width n = n % (2 * sign_bit width)

-- a number of so many bytes is below zero as a signed number
unfoldable pub is_below_zero : ℕ → ℕ → Bool
is_below_zero width n = nat_le (sign_bit width) (low width n)

-- its distance from zero as a signed number
unfoldable pub distance : ℕ → ℕ → ℕ
distance width n = if is_below_zero width n then 2 * sign_bit width - low width n else low width n

-- how far an address stands behind another, as a number of 64 bits
abbrev pub difference : ℕ → ℕ → ℕ
difference to from = (to + (2 ^ 64 - from)) % 2 ^ 64
