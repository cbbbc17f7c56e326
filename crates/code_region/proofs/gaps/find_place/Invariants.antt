use Rattle.std.proofs.Common.{◌+◌, ◌≤◌, ◌<◌, ◌-◌, ℕ, length}
use Rattle.code_region.specs.Searching.{gap_span_at}
use Rattle.code_region.proofs.gaps.find_place.Given as goal

abbrev pub invariant-loop-low : goal.invariant-loop-low
invariant-loop-low l = record {
  ordered : l.low ≤ l.high;
  bounded : l.high ≤ length l.spans;
  below : (k : ℕ) → k < l.low → l.base + (gap_span_at l.spans k).start < l.place;
  above : (k : ℕ) → l.high ≤ k → k < length l.spans → l.place < l.base + (gap_span_at l.spans k).start;
}

abbrev pub decreases-loop-low : goal.decreases-loop-low
decreases-loop-low l = l.high - l.low
