use Rattle.encoder.proofs.OverTable.{exact}
use Rattle.encoder.proofs.laws.ten_conditions_are_exact.Goals as goal

pub returns : goal.returns
returns c = λ bits ip i four. exact bits ip i four
