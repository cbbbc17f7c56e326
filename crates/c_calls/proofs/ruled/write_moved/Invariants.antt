use Rattle.std.proofs.Common.{◌≡◌, ◌++◌, drop}
use Rattle.c_calls.specs.Ruled.{moved_starts}
use Rattle.c_calls.proofs.ruled.write_moved.Given as goal

abbrev pub invariant-moved : goal.invariant-moved
invariant-moved l = l.room ≡ moved_starts l.starts l.places l.k ++ drop l.k l.initial.room
