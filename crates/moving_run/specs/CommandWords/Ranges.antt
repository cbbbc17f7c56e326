-- The ranges of addresses in which slots are made.
use Rattle.std.specs.Prelude.{◌≡◌, ℕ, ◌+◌, ◌%◌, ◌^◌, ◌<◌, ◌≤◌, ◌==◌, nat_le, Bool, not, ◌&&◌, if◌then◌else◌, Option, Some, None}
use Rattle.x86_values.specs.declared.Bits.{Bits}
use Rattle.x86_values.specs.Wrapping.{width}

-- a range: the mode of its code, its first address, and how many bytes it has
pub record Range : Type 0 where
  pub bits : Bits
  pub base : ℕ
  pub size : ℕ

-- it has 16 to 1,048,576 bytes, in units of 16, and ends inside the address space of the mode
pub record IsRange (range : Range) : Type 0 where
  pub some : 0 < range.size
  pub units : range.size % 16 ≡ 0
  pub few : range.size ≤ 1048576
  pub inside : range.base + range.size ≤ 2 ^ width range.bits

-- a base and a size are those of such a range, as a test
abbrev pub is_range : Bits → ℕ → ℕ → Bool
is_range bits base size = not (size == 0) && size % 16 == 0 && nat_le size 1048576 && nat_le (base + size) (2 ^ width bits)

-- the range of these bytes, where it is one
unfoldable pub range_of : Bits → ℕ → ℕ → Option Range
range_of bits base size = if is_range bits base size then Some (record { bits = bits; base = base; size = size }) else None
