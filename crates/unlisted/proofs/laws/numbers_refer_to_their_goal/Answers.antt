use Rattle.unlisted.proofs.SetAnew.{refers}
use Rattle.unlisted.proofs.laws.numbers_refer_to_their_goal.Goals as goal

pub returns : goal.returns
returns c = refers
