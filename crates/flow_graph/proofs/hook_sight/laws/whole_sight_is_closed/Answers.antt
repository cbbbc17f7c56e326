use Rattle.flow_graph.proofs.HookSight.Closing.{whole_is_closed}
use Rattle.flow_graph.proofs.hook_sight.laws.whole_sight_is_closed.Goals as goal

pub returns : goal.returns
returns c = whole_is_closed c.bytes_have_one_reading.ensures
