use Rattle.std.proofs.Common.{◌≡◌, ◌++◌, ◌-◌}
use Rattle.assembly_text.specs.Rounds.{places_from}
use Rattle.assembly_text.proofs.rounds.places_of.Given as goal

abbrev pub invariant-labels : goal.invariant-labels
invariant-labels l = l.places.items ++ places_from l.made l.base l.k (l.count - l.k) ≡ places_from l.made l.base 0 l.count
