use Rattle.std.proofs.Common.{◌≡◌, length}
use Rattle.flow_graph.specs.Walks.{IsStarted}
use Rattle.flow_graph.proofs.walk.Walk.start.Given as goal

abbrev pub invariant-entries : goal.invariant-entries
invariant-entries l = record {
  entered : IsStarted l.entries l.count l.entry-index l.walk.marks.items l.walk.order.items;
  flows : length l.walk.flows.items ≡ l.count;
}
