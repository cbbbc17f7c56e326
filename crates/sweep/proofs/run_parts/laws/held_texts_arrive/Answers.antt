use Rattle.sweep.proofs.RunParts.Held as held
use Rattle.sweep.proofs.run_parts.laws.held_texts_arrive.Goals as goal

pub returns : goal.returns
returns c = record {
  held-start = held.held-start;
  held-step = held.held-step;
  held-end = held.held-end;
  held-failed = held.held-failed;
  front-longer = held.front-longer;
}
