-- Modes by their numbers of bits.
use Rattle.std.specs.Prelude.{ℕ, Bool, ◌||◌, ◌==◌, if◌then◌else◌}
use Rattle.x86_values.specs.declared.Bits.{Bits}
use Rattle.x86_values.specs.declared.Bits.TheVariants.{B16, B32, B64}

-- the number is that of a mode
abbrev pub is_mode : ℕ → Bool
is_mode n = n == 16 || n == 32 || n == 64

-- the mode of a number
unfoldable pub mode_of : ℕ → Bits
mode_of n = if n == 16 then B16 else (if n == 32 then B32 else B64)

-- the sizes 16, 32 and 64 by number, from 0
unfoldable pub size_number : Bits → ℕ
size_number B16 = 0
size_number B32 = 1
size_number B64 = 2
