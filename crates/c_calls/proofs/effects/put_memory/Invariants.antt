use Rattle.c_calls.specs.Effects.{flat_memory_use}
use Rattle.c_calls.proofs.UsedPlaces.{HoldUses}
use Rattle.c_calls.proofs.effects.put_memory.Given as goal

abbrev pub invariant-places : goal.invariant-places
invariant-places l = HoldUses flat_memory_use 4 l.uses l.n l.places
