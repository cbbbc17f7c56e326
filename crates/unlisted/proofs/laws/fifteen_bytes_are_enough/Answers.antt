use Rattle.unlisted.proofs.Growing.{format-ended}
use Rattle.unlisted.proofs.laws.fifteen_bytes_are_enough.Goals as goal

pub returns : goal.returns
returns c = λ bits bytes h. format-ended bits bytes h.format
