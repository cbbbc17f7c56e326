use Rattle.std.proofs.Common.{◌<◌, length, arith}
use Rattle.std.proofs.lemmas.Option.{slice_get-get_or}
use Rattle.c_calls.specs.Effects.{flat_register, register_at}
use Rattle.c_calls.proofs.UsedPlaces.{places_start, places_step, places_end}
use Rattle.c_calls.proofs.effects.put_registers.Goals as goal

pub places-init : goal.places-init
places-init c = places_start flat_register 32 c.args.uses.now

pub places-preserved : goal.places-preserved
places-preserved c =
    let us = c.args.uses.now in
    let n = c.places.n in
    let lt : n < length us = omega arith in
    places_step flat_register 32 us n _ _ c.places.places lt (omega arith) (slice_get-get_or us n _ lt) c.flat_register.ensures c.places.invariant

pub returns : goal.returns
unfolding register_at
returns c = places_end flat_register 32 c.args.uses.now c.places.n c.places.places (omega arith) c.places.invariant
