use Rattle.encoder.proofs.OverTable.{shortest}
use Rattle.encoder.proofs.laws.plain_spelling_is_shortest.Goals as goal

pub returns : goal.returns
returns c = λ bits ip bytes others i p s. shortest bits ip bytes others i p s
