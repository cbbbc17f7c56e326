use Rattle.block_encoder.proofs.LastForms as last
use Rattle.block_encoder.proofs.laws.last_forms_bound_the_length.Goals as goal

pub returns : goal.returns
returns c = record {
  kept-address = last.kept-address c.laws_below.ensures;
  last-bound = last.last-bound c.laws_below.ensures;
  last-some = last.last-some c.laws_below.ensures;
  end-below = last.end-below c.laws_below.ensures;
  moved-within = last.moved-within c.laws_below.ensures;
  last-moves = last.last-moves c.laws_below.ensures;
}
