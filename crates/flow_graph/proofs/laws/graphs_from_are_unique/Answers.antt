use Rattle.flow_graph.proofs.Unique.{one_graph_from}
use Rattle.flow_graph.proofs.laws.graphs_from_are_unique.Goals as goal

pub returns : goal.returns
returns c = one_graph_from c.bytes_have_one_reading.ensures c.answers_are_unique.ensures
