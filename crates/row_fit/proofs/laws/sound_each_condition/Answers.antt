use Rattle.row_fit.proofs.SoundLaws.{sound_conditions}
use Rattle.row_fit.proofs.laws.sound_each_condition.Goals as goal

pub returns : goal.returns
returns c = sound_conditions
