use Rattle.flow_graph.proofs.Unique.{least_from}
use Rattle.flow_graph.proofs.laws.reached_from_is_least.Goals as goal

pub returns : goal.returns
returns c = least_from
