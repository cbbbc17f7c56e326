use Rattle.step_slots.proofs.NumberAt.{numbers-keep}
use Rattle.step_slots.proofs.laws.numbers_keep_their_address.Goals as goal

pub returns : goal.returns
returns c = numbers-keep
