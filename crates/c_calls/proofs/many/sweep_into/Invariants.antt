use Rattle.std.proofs.Common.{◌-◌, length}
use Rattle.c_calls.proofs.ItemStructs.{WrittenTo}
use Rattle.c_calls.proofs.many.sweep_into.Given as goal

abbrev pub invariant-loop-at : goal.invariant-loop-at
invariant-loop-at l = WrittenTo l.bits l.ip l.bytes l.at l.count l.fn.instrs l.instrs

abbrev pub decreases-loop-at : goal.decreases-loop-at
decreases-loop-at l = length l.bytes - l.at
