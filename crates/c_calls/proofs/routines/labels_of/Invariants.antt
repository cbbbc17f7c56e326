use Rattle.std.proofs.Common.{◌≡◌}
use Rattle.c_calls.specs.Routines.{first_labels}
use Rattle.c_calls.proofs.routines.labels_of.Given as goal

abbrev pub invariant-each : goal.invariant-each
invariant-each l = l.labels.items ≡ first_labels l.made l.lines.items l.k
