-- The bytes that were read and are not yet handled: they stand at the front of a window of fixed length.
use Rattle.std.specs.Prelude.{◌≡◌, ℕ, ◌+◌, ◌≤◌, List, ◌++◌, length, take, Option}
use Rattle.byte_ports.specs.Ports.{with_front}
use Rattle.sweep.specs.RunParts.Reads.{IsAtEnd}

-- so many bytes were taken of a source and stand behind the first of a window; none is taken at the end alone
pub record Fills (left left' : Option (List ℕ)) (window window' : List ℕ) (len room count : ℕ) : Type 0 where
  pub piece : List ℕ
  pub read : left ≡ with_front piece left'
  pub count_is : length piece ≡ count
  pub within : count ≤ room
  pub front : take (len + count) window' ≡ take len window ++ piece
  pub ended : count ≡ 0 → IsAtEnd left'
