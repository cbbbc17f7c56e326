use Rattle.std.proofs.Common.{◌≡◌, ◌<◌, ℕ, false}
use Rattle.detour.specs.Starts.{stands_at}
use Rattle.detour.proofs.starts.number_of_place.Given as goal

abbrev pub invariant-places : goal.invariant-places
invariant-places l = (j : ℕ) → j < l.k → stands_at l.places l.place j ≡ false
