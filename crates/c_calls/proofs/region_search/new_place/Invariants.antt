use Rattle.c_calls.proofs.RegionsLaid.{SearchedTo}
use Rattle.c_calls.proofs.region_search.new_place.Given as goal

abbrev pub invariant-live : goal.invariant-live
invariant-live l = SearchedTo l.base l.limit l.needed l.live l.k l.from
