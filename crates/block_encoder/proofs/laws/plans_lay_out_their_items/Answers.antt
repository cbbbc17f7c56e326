use Rattle.block_encoder.proofs.Chosen as chosen
use Rattle.block_encoder.proofs.laws.plans_lay_out_their_items.Goals as goal

pub returns : goal.returns
returns c = record {
  plan-spans = chosen.plan-spans;
  plan-count = chosen.plan-count;
  plan-item = chosen.plan-item;
  choice-is = chosen.choice-is;
  choice-below = chosen.choice-below;
  fragment-place = chosen.fragment-place;
  fragment-image_length = chosen.fragment-image_length;
}
