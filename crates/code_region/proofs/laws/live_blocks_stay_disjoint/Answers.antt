use Rattle.code_region.proofs.Lawful.{sound-disjoint}
use Rattle.code_region.proofs.laws.live_blocks_stay_disjoint.Goals as goal

pub returns : goal.returns
returns c = sound-disjoint
