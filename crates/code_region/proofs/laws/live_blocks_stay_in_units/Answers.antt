use Rattle.code_region.proofs.Units as units
use Rattle.code_region.proofs.laws.live_blocks_stay_in_units.Goals as goal

pub returns : goal.returns
returns c = record {
  opened = units.opened-in_units;
  placed = units.placed-in_units;
  released = units.released-in_units;
  filled = units.filled-in_units;
  run = units.run-in_units;
}
