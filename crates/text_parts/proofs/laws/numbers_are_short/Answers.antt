use Rattle.text_parts.proofs.Bounds.{number-le}
use Rattle.text_parts.proofs.laws.numbers_are_short.Goals as goal

pub returns : goal.returns
returns c = number-le
