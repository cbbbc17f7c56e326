use Rattle.row_fit.proofs.FrontGrows.{forbidden-extends}
use Rattle.row_fit.proofs.laws.forbidden_front_stays.Goals as goal

pub returns : goal.returns
returns c = forbidden-extends
