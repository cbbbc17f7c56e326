use Rattle.flow_graph.proofs.OneEntry.{one_leader}
use Rattle.flow_graph.proofs.laws.leaders_are_unique.Goals as goal

pub returns : goal.returns
returns c = one_leader
