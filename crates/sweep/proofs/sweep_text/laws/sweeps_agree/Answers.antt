use Rattle.sweep.proofs.SweepText.OneSweep as sweeps
use Rattle.sweep.proofs.sweep_text.laws.sweeps_agree.Goals as goal

pub returns : goal.returns
returns c = record {
  reading_unique = sweeps.reading_unique c.bytes_have_one_reading.ensures;
  item_unique = sweeps.item_unique c.bytes_have_one_reading.ensures;
  sweep_begins = sweeps.sweep_begins c.bytes_have_one_reading.ensures;
  begin_each_other = sweeps.begin_each_other;
  sweep_unique = sweeps.sweep_unique c.bytes_have_one_reading.ensures;
}
