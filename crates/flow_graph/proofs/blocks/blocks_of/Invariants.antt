use Rattle.std.proofs.Common.{◌≡◌, ◌<◌, ℕ, length, get_or}
use Rattle.flow_graph.specs.Marks.{LeaderByMarks, AreMarkedBelow}
use Rattle.flow_graph.specs.Told.{AreFlowsOf}
use Rattle.flow_graph.proofs.blocks.blocks_of.Given as goal

abbrev pub invariant-offsets : goal.invariant-offsets
invariant-offsets l = record {
  len : length l.leaders.items ≡ l.offset;
  before : (q : ℕ) → q < l.offset → 0 < get_or l.marks q 0 → LeaderByMarks l.marks (get_or l.leaders.items q 0) q;
  listed : AreMarkedBelow l.marks l.offset l.blocks.starts.items l.blocks.leaders.items;
  flows : AreFlowsOf l.flows l.blocks.starts.items l.blocks.flows.items;
}
