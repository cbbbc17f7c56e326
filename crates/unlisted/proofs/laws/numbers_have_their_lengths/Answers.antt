use Rattle.unlisted.proofs.NumberLengths.{lengths}
use Rattle.unlisted.proofs.laws.numbers_have_their_lengths.Goals as goal

pub returns : goal.returns
returns c = lengths
