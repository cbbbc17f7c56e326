use Rattle.move_goals.proofs.First as first
use Rattle.move_goals.proofs.laws.first_numbers_pass.Goals as goal

pub returns : goal.returns
returns c = record {
  first_below_none = first.first_below_none;
  first_below_hit = first.first_below_hit;
  none_below = first.none_below;
  some_below = first.some_below;
  first_below_congr = first.first_below_congr;
}
