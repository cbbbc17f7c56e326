use Rattle.flow_graph.proofs.OneEntry.{one_graph}
use Rattle.flow_graph.proofs.laws.graphs_are_unique.Goals as goal

pub returns : goal.returns
returns c = one_graph c.bytes_have_one_reading.ensures c.answers_are_unique.ensures
