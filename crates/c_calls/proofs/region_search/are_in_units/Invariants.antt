use Rattle.std.proofs.Common.{◌≡◌, drop}
use Rattle.c_calls.specs.Regions.{are_in_units}
use Rattle.c_calls.proofs.region_search.are_in_units.Given as goal

abbrev pub invariant-live : goal.invariant-live
invariant-live l = are_in_units l.base l.live ≡ are_in_units l.base (drop l.k l.live)
