use Rattle.std.proofs.Common.{◌+◌, ◌*◌, length}
use Rattle.branch_sizes.specs.Tables.{plan_in}
use Rattle.branch_sizes.specs.Layout.{AreLengths, GrowsTo, room}
use Rattle.branch_sizes.proofs.worklist.settle.Given as goal

abbrev pub invariant-suspects : goal.invariant-suspects
invariant-suspects l = record {
  lengths : AreLengths (plan_in l.tables) l.layout l.sums;
  grows : GrowsTo (plan_in l.tables) l.initial.layout l.layout;
}

abbrev pub decreases-suspects : goal.decreases-suspects
decreases-suspects l = room (plan_in l.tables) l.layout

abbrev pub invariant-queue : goal.invariant-queue
invariant-queue l = record {
  lengths : AreLengths (plan_in l.tables) l.layout l.sums;
  grows : GrowsTo (plan_in l.tables) l.initial.layout l.layout;
}

abbrev pub decreases-queue : goal.decreases-queue
decreases-queue l = 1000 * room (plan_in l.tables) l.layout + length l.suspects.queue.items
