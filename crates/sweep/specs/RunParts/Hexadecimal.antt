-- Numbers in hexadecimal.
use Rattle.std.specs.Prelude.{ℕ, List, false}
use Rattle.std.specs.Fmt.{digits}

-- a number in lower-case hexadecimal digits without leading zeros
unfoldable pub hex_number : ℕ → List ℕ
hex_number n = digits 16 false n
