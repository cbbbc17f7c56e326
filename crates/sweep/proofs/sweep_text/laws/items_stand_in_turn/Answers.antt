use Rattle.sweep.proofs.SweepText.Covering as covering
use Rattle.sweep.proofs.sweep_text.laws.items_stand_in_turn.Goals as goal

pub returns : goal.returns
returns c = record {
  swept-start = covering.swept-start;
  swept-step = covering.swept-step;
  swept-first = covering.swept-first;
  swept-end = covering.swept-end;
  error_is = covering.error_is;
}
