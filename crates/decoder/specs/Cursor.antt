-- What a caller sees of a decoder.
use Rattle.std.specs.Prelude.{ℕ, List}

-- its bytes, the address of the first, and how many of them stand before the next one that it reads
pub record Cursor : Type 0 where
  pub bytes : List ℕ
  pub ip : ℕ
  pub position : ℕ
