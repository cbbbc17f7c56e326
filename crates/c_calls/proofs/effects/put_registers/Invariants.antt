use Rattle.c_calls.specs.Effects.{flat_register}
use Rattle.c_calls.proofs.UsedPlaces.{HoldUses}
use Rattle.c_calls.proofs.effects.put_registers.Given as goal

abbrev pub invariant-places : goal.invariant-places
invariant-places l = HoldUses flat_register 32 l.uses l.n l.places
