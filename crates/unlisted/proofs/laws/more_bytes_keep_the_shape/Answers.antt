use Rattle.unlisted.proofs.Answers.{stays}
use Rattle.unlisted.proofs.laws.more_bytes_keep_the_shape.Goals as goal

pub returns : goal.returns
returns c = stays
