-- Numbers as they are written in bytes (Intel SDM volume 2, 2.1.5, 2.2.1.3 and 2.2.1.5).
use Rattle.std.specs.Prelude.{ℕ, zero, suc, ◌+◌, ◌-◌, ◌*◌, ◌/◌, ◌%◌, ◌^◌, Bool, ◌&&◌, ◌||◌, nat_le, nat_lt, List, [], ◌∷◌}
use Rattle.x86_values.specs.declared.Bits.{Bits}
use Rattle.x86_values.specs.Wrapping.{modulo_width}

-- the low n bytes of a number, the lowest first (volume 1, 1.3.1)
unfoldable pub low_bytes : ℕ → ℕ → List ℕ
low_bytes zero x = []
low_bytes (suc n) x = x % 256 ∷ low_bytes n (x / 256)

-- a number of `width` bits is what n sign-extended bytes give, cut to that width: every number where the bytes hold all bits, else
-- one below half of their range, or at most so far below 2 to the width (2.2.1.3)
unfoldable pub is_extended_of : ℕ → ℕ → ℕ → Bool
is_extended_of n width x =
    nat_lt x (2 ^ width)
    && (nat_le width (8 * n) || (nat_lt (2 * x) (2 ^ (8 * n)) || nat_le (2 * 2 ^ width) (2 * x + 2 ^ (8 * n))))

-- what has to be added to an address to come to another one, modulo 2 to the size (2.2.1.6)
unfoldable pub distance : Bits → ℕ → ℕ → ℕ
distance size from to = modulo_width size (to + (2 ^ 64 - from))
