use Rattle.flow_graph.proofs.HookSight.Closing.{not_followed}
use Rattle.flow_graph.proofs.hook_sight.laws.ends_are_not_followed.Goals as goal

pub returns : goal.returns
returns c = not_followed c.bytes_have_one_reading.ensures
