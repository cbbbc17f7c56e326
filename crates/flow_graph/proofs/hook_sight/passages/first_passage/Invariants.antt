use Rattle.std.proofs.Common.{◌<◌, ℕ, get_or}
use Rattle.flow_graph.specs.Control.{code_bytes}
use Rattle.flow_graph.specs.HookSight.Entries.{part_of}
use Rattle.flow_graph.proofs.HookSight.Entering.{NoneFrom}
use Rattle.flow_graph.proofs.hook_sight.passages.first_passage.Given as goal

abbrev pub invariant-places : goal.invariant-places
invariant-places l =
    (j : ℕ) → j < l.k → NoneFrom (code_bytes l.bits l.ip l.code) (part_of l.taken l.moved l.start) (get_or l.starts j 0)
