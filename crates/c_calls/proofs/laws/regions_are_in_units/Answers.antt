use Rattle.c_calls.proofs.RegionUnits.{live-units, place-units}
use Rattle.c_calls.proofs.laws.regions_are_in_units.Goals as goal

pub returns-clause-live : goal.returns-clause-live
returns-clause-live c = live-units

pub returns-clause-place : goal.returns-clause-place
returns-clause-place c = place-units c.places_are_gaps.ensures
