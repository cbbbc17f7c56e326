use Rattle.c_calls.proofs.RegionsLaid.{PassedTo}
use Rattle.c_calls.proofs.region_search.index_of.Given as goal

abbrev pub invariant-live : goal.invariant-live
invariant-live l = PassedTo l.limit l.place l.live l.k
