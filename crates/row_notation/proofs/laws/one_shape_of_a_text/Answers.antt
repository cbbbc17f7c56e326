use Rattle.row_notation.proofs.OneText.{one-text}
use Rattle.row_notation.proofs.laws.one_shape_of_a_text.Goals as goal

pub returns : goal.returns
returns c = one-text
