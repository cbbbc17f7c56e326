use Rattle.encoder.proofs.OverTable.{untargeted}
use Rattle.encoder.proofs.laws.without_target_spelled_is_plain.Goals as goal

pub returns : goal.returns
returns c = λ bits ip i none. untargeted bits ip i none
