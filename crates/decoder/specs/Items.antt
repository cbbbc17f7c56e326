-- The items of some bytes, one behind another: an instruction, or a single byte where none is read.
use Rattle.std.specs.Prelude.{◌≡◌, ℕ, ◌+◌, ◌<◌, ◌≤◌, [], length, take, drop, Option, Some, None, Result, Ok, Err}
use Rattle.x86_values.specs.declared.Decoded.{Decoded}
use Rattle.x86_values.specs.Wrapping.{modulo_width}
use Rattle.opcode_rows.specs.Reading.{IsRead}
use Rattle.decoder.specs.declared.DecodeError.{DecodeError}
use Rattle.decoder.specs.declared.items.Item.{Item}
use Rattle.decoder.specs.declared.items.Items.{Items}
use Rattle.decoder.specs.Answer.{reading_of}

-- how many bytes an item takes: those of its instruction, or one where none is read
abbrev pub item_len : Result Decoded DecodeError → ℕ
item_len (Ok d) = d.len
item_len (Err _) = 1

-- the item at the front of what was left, and what is left behind it
pub record IsNext (before : Items) (item : Item) (after : Items) : Type 0 where
  pub address : item.ip ≡ modulo_width before.bits before.ip
  pub reading : IsRead before.bits before.ip before.bytes.now (reading_of item.reading)
  pub some : 0 < item_len item.reading
  pub within : item_len item.reading ≤ length before.bytes.now
  pub bytes : item.bytes.now ≡ take (item_len item.reading) before.bytes.now
  pub mode : after.bits ≡ before.bits
  pub moved : after.ip ≡ modulo_width before.bits (item.ip + item_len item.reading)
  pub rest : after.bytes.now ≡ drop (item_len item.reading) before.bytes.now

-- the items end with the bytes
abbrev pub GivesItem : Items → Option Item → Items → Type 0
GivesItem before None after = (before.bytes.now ≡ []) × (after ≡ before)
GivesItem before (Some item) after = IsNext before item after
