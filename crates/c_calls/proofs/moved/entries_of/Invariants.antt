use Rattle.std.proofs.Common.{◌≡◌}
use Rattle.c_calls.specs.Moving.{entries}
use Rattle.c_calls.proofs.moved.entries_of.Given as goal

abbrev pub invariant-entries : goal.invariant-entries
invariant-entries l = l.list.items ≡ entries l.items l.starts l.forms l.k
