use Rattle.row_fit.proofs.FitLaws.{all_conditions}
use Rattle.row_fit.proofs.laws.fits_each_condition.Goals as goal

pub returns : goal.returns
returns c = all_conditions
