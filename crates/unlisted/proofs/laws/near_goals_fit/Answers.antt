use Rattle.unlisted.proofs.Numbers.{near-fits}
use Rattle.unlisted.proofs.laws.near_goals_fit.Goals as goal

pub returns : goal.returns
returns c = near-fits
