-- The sweep: what is read from the front of some bytes to their end, one item behind another.
use Rattle.std.specs.Prelude.{◌≡◌, ℕ, ◌+◌, ◌<◌, ◌≤◌, List, [], ◌∷◌, length, take, drop}
use Rattle.x86_values.specs.declared.Bits.{Bits}
use Rattle.row_relation.specs.Spells.{Reading, Read, TooShort, Invalid}
use Rattle.opcode_rows.specs.Reading.{IsRead}

-- the reading of the table at an offset of the code at a base address, where these bytes stand from the offset on;
-- the address wraps in the mode
unfoldable pub IsReadAt : Bits → ℕ → ℕ → List ℕ → Reading → Type 0
IsReadAt bits base offset bytes reading = IsRead bits (base + offset) bytes reading

-- how many bytes an item takes: those of its instruction, or one where none is read
abbrev pub item_len : Reading → ℕ
item_len (Read d) = d.len
item_len TooShort = 1
item_len Invalid = 1

-- an item: its offset, its bytes, and what is read there
pub record Item : Type 0 where
  pub offset : ℕ
  pub bytes : List ℕ
  pub reading : Reading

-- the item stands at an offset, where these bytes stand from there on
pub record IsItemAt (bits : Bits) (base offset : ℕ) (bytes : List ℕ) (item : Item) : Type 0 where
  pub offset_is : item.offset ≡ offset
  pub reads : IsReadAt bits base offset bytes item.reading
  pub within : item_len item.reading ≤ length bytes
  pub some : 0 < item_len item.reading
  pub bytes_are : item.bytes ≡ take (item_len item.reading) bytes

-- The first items of a sweep from an offset on, where these bytes stand from there on, and the bytes behind them.
-- Each item begins where the one before ends.
abbrev pub Sweeps : Bits → ℕ → ℕ → List ℕ → List Item → List ℕ → Type 0
Sweeps bits base offset bytes [] rest = bytes ≡ rest
Sweeps bits base offset bytes (item ∷ items) rest =
    IsItemAt bits base offset bytes item
    × Sweeps bits base (offset + item_len item.reading) (drop (item_len item.reading) bytes) items rest

-- the items of the sweep of some bytes: it goes on to their end
abbrev pub IsSweep : Bits → ℕ → List ℕ → List Item → Type 0
IsSweep bits base bytes items = Sweeps bits base 0 bytes items []

-- the first items of the sweep of some bytes
abbrev pub BeginsSweep : Bits → ℕ → List ℕ → List Item → Type 0
BeginsSweep bits base bytes items = (rest : List ℕ) × Sweeps bits base 0 bytes items rest
