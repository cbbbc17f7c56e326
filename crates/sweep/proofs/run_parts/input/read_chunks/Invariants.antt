use Rattle.std.proofs.Common.{◌≡◌, ◌≤◌, ◌+◌, ◌-◌, length, vec_len}
use Rattle.byte_ports.specs.Ports.{with_front}
use Rattle.sweep.proofs.run_parts.input.read_chunks.Given as goal

abbrev pub invariant-loop-input : goal.invariant-loop-input
invariant-loop-input g l = record {
  read : g.S.Source.left l.initial.source ≡ with_front l.input.items (g.S.Source.left l.source);
  bound : length l.input.items ≤ l.limit + 1;
  later : g.S.Source.faults l.initial.source ≤ g.S.Source.faults l.source;
}

abbrev pub decreases-loop-input : goal.decreases-loop-input
decreases-loop-input g l = l.limit + 1 - vec_len l.input
