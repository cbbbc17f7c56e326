-- Ranges of addresses, which wrap at the address size of the mode.
use Rattle.std.specs.Prelude.{ℕ, nat_lt, Bool, ◌&&◌, ◌||◌}
use Rattle.x86_values.specs.declared.Bits.{Bits}
use Rattle.plain_spelling.specs.Values.{distance}

-- an address is one of so many from another on, in the mode
abbrev pub is_within : Bits → ℕ → ℕ → ℕ → Bool
is_within bits base len at = nat_lt (distance bits base at) len

-- two ranges have an address in common: neither is empty, and one begins within the other; addresses wrap
unfoldable pub overlaps : Bits → ℕ → ℕ → ℕ → ℕ → Bool
overlaps bits ip len place other =
    nat_lt 0 len && (nat_lt 0 other && (is_within bits ip len place || is_within bits place other ip))
