use Rattle.std.proofs.Common.{◌-◌, length}
use Rattle.moving_run.proofs.SlotsRun.Going.{Begun}
use Rattle.moving_run.proofs.slots_run.stepping.step_all.Given as goal

abbrev pub invariant-loop-at : goal.invariant-loop-at
invariant-loop-at l = Begun l.range l.base l.input l.at l.number l.refused l.slots

abbrev pub decreases-loop-at : goal.decreases-loop-at
decreases-loop-at l = length l.input - l.at
