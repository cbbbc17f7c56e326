use Rattle.std.proofs.Common.{length, ◌-◌}
use Rattle.c_calls.proofs.ItemsInOrder.{ReadSoFar}
use Rattle.c_calls.proofs.moved.read_items.Given as goal

abbrev pub invariant-loop-at : goal.invariant-loop-at
invariant-loop-at l = ReadSoFar l.bits l.base l.bytes l.at l.items.items

abbrev pub decreases-loop-at : goal.decreases-loop-at
decreases-loop-at l = length l.bytes - l.at
