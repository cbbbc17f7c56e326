use Rattle.std.proofs.Common.{length, sym}
use Rattle.std.proofs.lemmas.Bool.{eq-eqb}
use Rattle.detour.specs.Starts.{stands_at}
use Rattle.detour.proofs.starts.number_of_place.Goals as goal

pub returns-then-places-k : goal.returns-then-places-k
returns-then-places-k c =
    sym (c.first_numbers_pass.ensures.first_below_hit (stands_at c.args.places.now c.args.place)
    (length c.args.places.now) c.places.k c.places-test.true (eq-eqb _ _ c.if-places-k.true) c.places.invariant)
