use Rattle.moving_run.proofs.Reading.{BlockBegun}
use Rattle.std.proofs.Common.{◌-◌, length}
use Rattle.moving_run.proofs.code.read_block.Given as goal

abbrev pub invariant-loop-at : goal.invariant-loop-at
invariant-loop-at l = BlockBegun l.bits l.base l.bytes l.at l.count l.fn.items.items l.items.items

abbrev pub decreases-loop-at : goal.decreases-loop-at
decreases-loop-at l = length l.bytes - l.at
