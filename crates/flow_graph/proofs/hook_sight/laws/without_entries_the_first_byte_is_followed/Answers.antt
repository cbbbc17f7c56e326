use Rattle.flow_graph.proofs.HookSight.Seeing.{seen_alone}
use Rattle.flow_graph.proofs.hook_sight.laws.without_entries_the_first_byte_is_followed.Goals as goal

pub returns : goal.returns
returns c = seen_alone
