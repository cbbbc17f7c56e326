use Rattle.std.proofs.Common.{◌-◌, ◌<◌, ◌≤◌, ℕ}
use Rattle.move_goals.specs.Items.{item_at}
use Rattle.move_goals.proofs.starts.item_between.Given as goal

abbrev pub invariant-halves : goal.invariant-halves
invariant-halves l = record {
  first : l.from ≤ l.low;
  order : l.low ≤ l.high;
  last : l.high ≤ l.to;
  below : (j : ℕ) → l.from ≤ j → j < l.low → (item_at l.items j).ip < l.target;
  above : (j : ℕ) → l.high ≤ j → j < l.to → l.target < (item_at l.items j).ip;
}

abbrev pub decreases-halves : goal.decreases-halves
decreases-halves l = l.high - l.low
