use Rattle.code_region.proofs.Lawful.{sound-restores}
use Rattle.code_region.proofs.laws.release_restores.Goals as goal

pub returns : goal.returns
returns c = sound-restores
