use Rattle.flow_graph.specs.Control.{code_bytes_with}
use Rattle.detour.proofs.Entering.{NoneBefore}
use Rattle.detour.proofs.entries.first_entry.Given as goal

abbrev pub invariant-starts : goal.invariant-starts
invariant-starts l = NoneBefore (code_bytes_with l.follow l.bits l.ip l.code) l.taken.items.items l.starts l.k
