use Rattle.branch_sizes.proofs.Rising as rising
use Rattle.branch_sizes.proofs.laws.images_are_short.Goals as goal

pub returns : goal.returns
returns c = record {
  fit_item = rising.fit_item;
  image_short = rising.image_short;
  image_rises = rising.image_rises;
  length_at_least = rising.length_at_least;
}
