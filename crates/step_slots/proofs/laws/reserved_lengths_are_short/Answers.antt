use Rattle.step_slots.proofs.Stepped as stepped
use Rattle.step_slots.proofs.laws.reserved_lengths_are_short.Goals as goal

pub returns : goal.returns
returns c = record {
  reserved-some = stepped.reserved-some c.laws_below.ensures;
  reserved-short = stepped.reserved-short c.laws_below.ensures;
  rounded-above = stepped.rounded-above;
}
