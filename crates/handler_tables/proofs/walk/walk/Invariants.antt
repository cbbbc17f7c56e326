use Rattle.std.proofs.Common.{◌≡◌, ◌+◌, ◌-◌}
use Rattle.handler_tables.proofs.TreeLemmas.{OnPath}
use Rattle.handler_tables.proofs.walk.walk.Given as goal

abbrev pub invariant-loop-taken : goal.invariant-loop-taken
invariant-loop-taken g l =
    record { path : OnPath (10 - l.taken) g.S.FieldSource.bits (g.S.FieldSource.fields l.source) l.next; count : l.steps ≡ l.initial.steps + l.taken }
