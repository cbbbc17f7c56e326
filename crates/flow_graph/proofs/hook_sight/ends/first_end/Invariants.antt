use Rattle.std.proofs.Common.{◌<◌, ℕ, get_or}
use Rattle.flow_graph.specs.Control.{code_bytes}
use Rattle.flow_graph.specs.HookSight.Sight.{IsFollowed}
use Rattle.flow_graph.proofs.hook_sight.ends.first_end.Given as goal

abbrev pub invariant-places : goal.invariant-places
invariant-places l = (j : ℕ) → j < l.k → IsFollowed (code_bytes l.bits l.ip l.code) (get_or l.starts j 0)
