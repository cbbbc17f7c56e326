use Rattle.std.proofs.Common.{◌≡◌, map}
use Rattle.std.specs.List.{range_with_len}
use Rattle.detour.specs.Starts.{place_at}
use Rattle.detour.proofs.starts.places_to.Given as goal

abbrev pub invariant-items : goal.invariant-items
invariant-items l = l.places.items ≡ map (place_at l.addresses l.place) (range_with_len 0 l.k)
