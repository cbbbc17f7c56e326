use Rattle.c_calls.proofs.RegionUnits.{step-fits}
use Rattle.c_calls.proofs.laws.steps_fit_their_places.Goals as goal

pub returns : goal.returns
returns c = step-fits c.places_are_gaps.ensures
