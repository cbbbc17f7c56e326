use Rattle.std.proofs.Common.{◌-◌, ◌<◌, ◌≤◌, ℕ, length}
use Rattle.code_items.specs.AnyItems.{item_ip, any_at}
use Rattle.code_items.proofs.any_plan.first_at.Given as goal

abbrev pub invariant-halves : goal.invariant-halves
invariant-halves l = record {
  order : l.low ≤ l.high;
  last : l.high ≤ length l.items;
  below : (j : ℕ) → j < l.low → item_ip (any_at l.items j) < l.target;
  above : (j : ℕ) → l.high ≤ j → j < length l.items → l.target < item_ip (any_at l.items j);
}

abbrev pub decreases-halves : goal.decreases-halves
decreases-halves l = l.high - l.low
