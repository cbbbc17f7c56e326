use Rattle.flow_graph.proofs.HookSight.Unique.{view_same}
use Rattle.flow_graph.proofs.hook_sight.laws.views_are_unique.Goals as goal

pub returns : goal.returns
returns c = λ code. view_same c.bytes_have_one_reading.ensures code
