use Rattle.std.proofs.Common.{length, ◌-◌}
use Rattle.code_items.proofs.AnySoFar.{AnySoFar}
use Rattle.code_items.proofs.any_items.read_any_items.Given as goal

abbrev pub invariant-loop-at : goal.invariant-loop-at
invariant-loop-at l = AnySoFar l.bits l.ip l.bytes l.at l.items.items

abbrev pub decreases-loop-at : goal.decreases-loop-at
decreases-loop-at l = length l.bytes - l.at
