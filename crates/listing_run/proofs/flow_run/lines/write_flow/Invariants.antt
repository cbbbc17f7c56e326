use Rattle.std.proofs.Common.{◌≤◌, ℕ, List}
use Rattle.flow_graph.specs.Control.{code_bytes}
use Rattle.flow_graph.specs.Graphs.{IsFlowGraph}
use Rattle.listing_run.proofs.FlowRun.FlowLines.{Progress}
use Rattle.listing_run.proofs.flow_run.lines.write_flow.Given as goal

abbrev pub invariant-loop-k : goal.invariant-loop-k
invariant-loop-k g l = record {
  progress : (bytes : List ℕ) → IsFlowGraph (code_bytes l.bits l.base bytes) l.graph →
      Progress (code_bytes l.bits l.base bytes) l.graph l.k (g.K.Sink.held l.initial.out) (g.K.Sink.held l.out) l.pending.items;
  later : g.K.Sink.faults l.initial.out ≤ g.K.Sink.faults l.out;
}
