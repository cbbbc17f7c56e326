-- Going through some bytes item by item.
use Rattle.std.specs.Prelude.{ℕ, ◌<◌, ◌≤◌, List, ◌++◌, length, take, drop}
use Rattle.x86_values.specs.declared.Bits.{Bits}
use Rattle.row_relation.specs.Spells.{Reading}
use Rattle.opcode_rows.specs.Sweep.{Item, Sweeps, item_len}

-- an item takes some of so many bytes
pub record TakesSome (reading : Reading) (n : ℕ) : Type 0 where
  pub some : 0 < item_len reading
  pub within : item_len reading ≤ n

-- the item of a reading at an offset, where these bytes stand from there on
abbrev pub item_read : ℕ → List ℕ → Reading → Item
item_read offset bytes reading = record { offset = offset; bytes = take (item_len reading) bytes; reading = reading }

-- the way through some bytes has come to an offset: these items are the first of the sweep, and what is swept from there on follows them
pub record SweptTo (bits : Bits) (base : ℕ) (bytes : List ℕ) (at : ℕ) (items : List Item) : Type 0 where
  pub within : at ≤ length bytes
  pub go_on : (more : List Item) (rest : List ℕ) → Sweeps bits base at (drop at bytes) more rest → Sweeps bits base 0 bytes (items ++ more) rest
