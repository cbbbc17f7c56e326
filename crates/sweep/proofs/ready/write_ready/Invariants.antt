use Rattle.std.proofs.Common.{◌≤◌, ◌-◌, length}
use Rattle.sweep.specs.RunParts.Writing.{Puts}
use Rattle.sweep.proofs.Handling.{Progress}
use Rattle.sweep.proofs.ready.write_ready.Given as goal

abbrev pub invariant-items : goal.invariant-items
invariant-items g l = record {
  progress : Progress l.bits l.base l.lines l.at l.bytes l.used l.count l.ended (g.K.Sink.held l.initial.out) (g.K.Sink.held l.out) l.pending.items;
  puts : Puts g.K.Sink.put_gives l.initial.out l.out;
  later : g.K.Sink.faults l.initial.out ≤ g.K.Sink.faults l.out;
}

abbrev pub decreases-items : goal.decreases-items
decreases-items g l = length l.bytes - l.used
