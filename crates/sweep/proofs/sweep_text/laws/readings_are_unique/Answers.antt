use Rattle.sweep.proofs.SweepText.OneSweep.{reading_unique}
use Rattle.sweep.proofs.sweep_text.laws.readings_are_unique.Goals as goal

pub returns : goal.returns
returns c = reading_unique c.bytes_have_one_reading.ensures
