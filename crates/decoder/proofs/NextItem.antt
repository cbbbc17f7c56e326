-- The item at the front of some bytes.
use Rattle.std.proofs.Common.{◌≡◌, ◌<◌, ◌≤◌, ◌+◌, ℕ, ap, sym, refl, arith, ◌∙◌, length, take, drop}
use Rattle.x86_values.specs.Wrapping.{modulo_width}
use Rattle.opcode_rows.specs.Table.{table}
use Rattle.opcode_rows.specs.Reading.{IsRead}
use Rattle.decoder.specs.declared.items.Item.{Item}
use Rattle.decoder.specs.declared.items.Items.{Items}
use Rattle.decoder.specs.Answer.{reading_of}
use Rattle.decoder.specs.Items.{item_len, IsNext}
use Rattle.decoder.proofs.Moving.{reading_at}

-- an item of so many bytes is next: what is read at the wrapped address, those bytes, and the rest
pub next_item : (before : Items) (item : Item) (after : Items) (len : ℕ) → item.ip ≡ modulo_width before.bits before.ip
    → IsRead before.bits item.ip before.bytes.now (reading_of item.reading) → item_len item.reading ≡ len → 0 < len
    → len ≤ length before.bytes.now → item.bytes.now ≡ take len before.bytes.now → after.bits ≡ before.bits
    → after.ip ≡ modulo_width before.bits (item.ip + len) → after.bytes.now ≡ drop len before.bytes.now → IsNext before item after
next_item before item after len address read n some within front mode moved back = record {
  address = address;
  reading =
      reading_at table before.bits item.ip before.ip before.bytes.now before.bytes.now (reading_of item.reading) address refl read;
  some = omega (arith, n, some);
  within = omega (arith, n, within);
  bytes = front ∙ ap (λ k. take k before.bytes.now) (sym n);
  mode = mode;
  moved = moved ∙ ap (λ k. modulo_width before.bits (item.ip + k)) (sym n);
  rest = back ∙ ap (λ k. drop k before.bytes.now) (sym n);
}
