use Rattle.std.proofs.Common.{◌≡◌, ◌+◌, ◌-◌, ◌<◌, ℕ, length}
use Rattle.detour.specs.Taken.{taken_bytes, offset_at}
use Rattle.detour.specs.AnyTaken.{outline}
use Rattle.detour.specs.AnyReading.{IsAnyFront}
use Rattle.detour.proofs.any_taken.take_any.Given as goal

abbrev pub invariant-items : goal.invariant-items
invariant-items l = record {
  front : IsAnyFront l.bits l.ip l.code l.items.items;
  lines : l.lines.items ≡ outline l.bits l.items.items;
  len : l.len ≡ taken_bytes (outline l.bits l.items.items);
  fewest : (k : ℕ) → k < length l.items.items → offset_at (outline l.bits l.items.items) k < l.need;
  short : l.len < l.need + 15;
}

abbrev pub decreases-items : goal.decreases-items
decreases-items l = l.need - l.len
