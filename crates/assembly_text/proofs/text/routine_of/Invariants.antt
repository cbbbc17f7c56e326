use Rattle.std.proofs.Common.{◌≤◌, ◌+◌, length}
use Rattle.assembly_text.specs.Known.{AreKnown}
use Rattle.assembly_text.specs.Placing.{view_of}
use Rattle.assembly_text.proofs.Going.{IsGone}
use Rattle.assembly_text.proofs.text.routine_of.Given as goal

abbrev pub invariant-lines : goal.invariant-lines
invariant-lines l = record {
  gone : IsGone l.fn.bits (view_of l.round) l.rest l.number l.routine l.trace l.origins.lines.items l.origins.end;
  known : AreKnown l.known;
  few : l.number + length l.rest ≤ length l.round.labels.now.text.now;
}

abbrev pub decreases-lines : goal.decreases-lines
decreases-lines l = length l.rest
