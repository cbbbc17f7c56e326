use Rattle.std.proofs.Common.{◌≤◌}
use Rattle.moving_run.specs.Map.{map_lines}
use Rattle.sweep.specs.RunParts.Writing.{HeldText}
use Rattle.moving_run.proofs.map.write_map.Given as goal

abbrev pub invariant-loop-k : goal.invariant-loop-k
invariant-loop-k g l = record {
  lines : HeldText (g.K.Sink.held l.initial.out) (g.K.Sink.held l.out) l.pending.items (map_lines l.bits l.items l.starts l.forms l.k);
  later : g.K.Sink.faults l.initial.out ≤ g.K.Sink.faults l.out;
}
