use Rattle.sweep.proofs.SweepText.OneSweep.{sweep_unique}
use Rattle.sweep.proofs.sweep_text.laws.sweeps_are_unique.Goals as goal

pub returns : goal.returns
returns c = sweep_unique c.bytes_have_one_reading.ensures
