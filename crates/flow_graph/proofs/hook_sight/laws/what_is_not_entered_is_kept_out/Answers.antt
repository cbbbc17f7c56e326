use Rattle.flow_graph.proofs.HookSight.Closing.{kept_out}
use Rattle.flow_graph.proofs.hook_sight.laws.what_is_not_entered_is_kept_out.Goals as goal

pub returns : goal.returns
returns c = kept_out c.bytes_have_one_reading.ensures
