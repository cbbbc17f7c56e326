use Rattle.flow_graph.proofs.OneEntry.{least}
use Rattle.flow_graph.proofs.laws.reached_is_least.Goals as goal

pub returns : goal.returns
returns c = least
