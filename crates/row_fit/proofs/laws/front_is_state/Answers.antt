use Rattle.row_fit.proofs.FrontLaws.{front_law}
use Rattle.row_fit.proofs.laws.front_is_state.Goals as goal

pub returns : goal.returns
returns c = front_law
