use Rattle.flow_graph.proofs.OneEntry.{one_entry}
use Rattle.flow_graph.proofs.laws.one_entry_is_the_first_byte.Goals as goal

pub returns : goal.returns
returns c = one_entry
