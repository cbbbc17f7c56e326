use Rattle.std.proofs.Common.{◌≡◌, ◌+◌, ◌-◌, ◌≤◌, ◌<◌, length}
use Rattle.sweep.specs.Calls.{Rounds}
use Rattle.sweep.proofs.Streaming.{Streamed}
use Rattle.sweep.proofs.stream.stream_all.Given as goal

abbrev pub invariant-pulls : goal.invariant-pulls
invariant-pulls g l = record {
  streamed : Streamed l.bits l.base l.lines (g.S.Source.left l.initial.source) (g.S.Source.left l.source) (g.K.Sink.held l.initial.sink) (g.K.Sink.held l.sink)
      l.at l.len l.count l.window;
  wide : length l.window ≡ 16384;
  few : l.at + l.len ≤ 16777216;
  short : l.len < 15;
  counted : l.count ≤ l.at;
  source_later : g.S.Source.faults l.initial.source ≤ g.S.Source.faults l.source;
  rounds : Rounds g.S.Source.left g.S.Source.pull_gives g.K.Sink.held g.K.Sink.put_gives l.bits l.base l.lines l.initial.source l.initial.sink l.source l.sink;
  sink_later : g.K.Sink.faults l.initial.sink ≤ g.K.Sink.faults l.sink;
}

abbrev pub decreases-pulls : goal.decreases-pulls
decreases-pulls g l = 16777217 - (l.at + l.len)
