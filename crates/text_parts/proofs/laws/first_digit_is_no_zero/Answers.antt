use Rattle.text_parts.proofs.NumberLaws.{first-above}
use Rattle.text_parts.proofs.laws.first_digit_is_no_zero.Goals as goal

pub returns : goal.returns
returns c = first-above
