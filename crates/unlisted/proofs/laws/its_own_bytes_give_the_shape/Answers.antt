use Rattle.unlisted.proofs.Answers.{alone}
use Rattle.unlisted.proofs.laws.its_own_bytes_give_the_shape.Goals as goal

pub returns : goal.returns
returns c = alone
