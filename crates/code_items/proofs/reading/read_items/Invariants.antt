use Rattle.std.proofs.Common.{length, ◌-◌}
use Rattle.code_items.proofs.ReadSoFar.{ReadSoFar}
use Rattle.code_items.proofs.reading.read_items.Given as goal

abbrev pub invariant-loop-at : goal.invariant-loop-at
invariant-loop-at l = ReadSoFar l.bits l.ip l.bytes l.at l.placed.items

abbrev pub decreases-loop-at : goal.decreases-loop-at
decreases-loop-at l = length l.bytes - l.at
