use Rattle.flow_graph.specs.Control.{code_bytes}
use Rattle.flow_graph.specs.HookSight.Entries.{part_of}
use Rattle.flow_graph.specs.HookSight.Suspects.{IsCursor}
use Rattle.flow_graph.proofs.HookSight.Suspecting.{NoneBelow}
use Rattle.flow_graph.proofs.hook_sight.suspects.first_suspect.Given as goal

abbrev pub invariant-offsets : goal.invariant-offsets
invariant-offsets l = record {
  cursor : IsCursor l.starts l.next l.p;
  none : NoneBelow (code_bytes l.bits l.ip l.code) (part_of l.taken l.moved l.start) l.starts l.p;
}
