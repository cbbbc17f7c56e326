use Rattle.encoder.proofs.OverTable.{only_one}
use Rattle.encoder.proofs.laws.plain_spelling_is_one.Goals as goal

pub returns : goal.returns
returns c = λ bits ip bytes others i p q. only_one bits ip bytes others i p q
