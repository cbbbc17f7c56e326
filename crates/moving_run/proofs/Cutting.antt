-- Cutting bytes into blocks, and the first old end that passes.
use Rattle.std.proofs.Common.{◌≡◌, ℕ, ◌+◌, List, length, Option, Some, None, arith, length-drop, length-take}
use Rattle.moving_run.specs.Code.{next_block_bytes, left_by}

-- a block and what is behind it are all bytes
pub cut_length : (len : Option ℕ) (bytes : List ℕ) → length (next_block_bytes len bytes) + length (left_by len bytes) ≡ length bytes
cut_length None bytes = omega arith
cut_length (Some len) bytes = omega (arith, length-take len bytes, length-drop len bytes)
