use Rattle.row_fit.proofs.OneSpelling.{one_spelling}
use Rattle.row_fit.proofs.laws.one_spelling_of_a_row.Goals as goal

pub returns : goal.returns
returns c = one_spelling
