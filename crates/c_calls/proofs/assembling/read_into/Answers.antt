use Rattle.std.proofs.Common.{Ok, Err, refl, arith}
use Rattle.std.proofs.lemmas.Int.{ints}
use Rattle.c_calls.specs.declared.refusal.Refusal.TheVariants.{Text}
use Rattle.c_calls.proofs.assembling.read_into.Goals as goal

pub returns-in-Ok : goal.returns-in-Ok
returns-in-Ok c = record {
  answer = Ok c.in-Ok.read;
  is = c.in-Ok.ensures.assembled;
  said_is = omega (arith, ints, c.from.ensures, c.flat_encoded.ensures.len);
  left = (c.flat_encoded.ensures.flat, c.flat_encoded.ensures.back);
}

pub returns-in-Err-NoInstruction : goal.returns-in-Err-NoInstruction
returns-in-Err-NoInstruction c = record {
  answer = Err Text;
  is = c.in-Err-NoInstruction.ensures.none.0 refl;
  said_is = omega (arith, ints, c.refusal_status.ensures);
  left = refl;
}
