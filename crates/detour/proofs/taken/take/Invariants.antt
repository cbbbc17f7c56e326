use Rattle.std.proofs.Common.{◌≡◌, ◌+◌, ◌-◌, ◌<◌, ℕ, length}
use Rattle.detour.specs.Reading.{IsFront}
use Rattle.detour.specs.Taken.{taken_bytes, offset_at}
use Rattle.detour.proofs.taken.take.Given as goal

abbrev pub invariant-items : goal.invariant-items
invariant-items l = record {
  front : IsFront l.bits l.ip l.code l.items.items;
  len : l.len ≡ taken_bytes l.items.items;
  fewest : (k : ℕ) → k < length l.items.items → offset_at l.items.items k < l.need;
  short : l.len < l.need + 15;
}

abbrev pub decreases-items : goal.decreases-items
decreases-items l = l.need - l.len
