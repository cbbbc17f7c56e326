use Rattle.row_fit.proofs.FrontGrows.{front-extends}
use Rattle.row_fit.proofs.laws.known_front_stays.Goals as goal

pub returns : goal.returns
returns c = front-extends
