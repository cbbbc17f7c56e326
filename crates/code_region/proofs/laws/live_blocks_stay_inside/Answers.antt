use Rattle.code_region.proofs.Lawful.{sound-inside}
use Rattle.code_region.proofs.laws.live_blocks_stay_inside.Goals as goal

pub returns : goal.returns
returns c = sound-inside
