use Rattle.code_items.proofs.AnyNumbers.{numbers-refer}
use Rattle.code_items.proofs.any_laws.numbers_refer_to_their_goals.Goals as goal

pub returns : goal.returns
returns c = numbers-refer
