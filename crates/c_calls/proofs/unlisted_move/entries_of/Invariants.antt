use Rattle.std.proofs.Common.{◌≡◌}
use Rattle.c_calls.specs.UnlistedMoves.{any_entries}
use Rattle.c_calls.proofs.unlisted_move.entries_of.Given as goal

abbrev pub invariant-entries : goal.invariant-entries
invariant-entries l = l.list.items ≡ any_entries l.moved l.k
