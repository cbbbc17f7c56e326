use Rattle.text_parts.proofs.NumberLaws.{hexadecimal-same}
use Rattle.text_parts.proofs.laws.digits_tell_numbers_apart.Goals as goal

pub returns : goal.returns
returns c = hexadecimal-same
