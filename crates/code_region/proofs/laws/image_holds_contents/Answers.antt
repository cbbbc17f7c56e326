use Rattle.code_region.proofs.Holding.{sound-holds}
use Rattle.code_region.proofs.laws.image_holds_contents.Goals as goal

pub returns : goal.returns
returns c = sound-holds
