use Rattle.flow_graph.specs.HookSight.Entries.{IsLeast}
use Rattle.flow_graph.proofs.HookSight.Entering.{InsideBefore}
use Rattle.flow_graph.proofs.hook_sight.passages.first_inside.Given as goal

abbrev pub invariant-places : goal.invariant-places
invariant-places l = IsLeast (InsideBefore l.entries l.taken l.count l.k) l.first
