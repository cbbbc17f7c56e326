-- How many instructions are made.
use Rattle.std.specs.Prelude.{ℕ, ◌<◌, ◌≤◌, ◌==◌, nat_le, not, ◌&&◌, if◌then◌else◌, Option, Some, None}

-- a number of instructions to make: 1 to 65,536
pub record IsCount (count : ℕ) : Type 0 where
  pub some : 0 < count
  pub few : count ≤ 65536

-- the number, where it is one
unfoldable pub count_word : ℕ → Option ℕ
count_word count = if not (count == 0) && nat_le count 65536 then Some count else None
