use Rattle.code_region.proofs.Sound as sound
use Rattle.code_region.proofs.laws.regions_stay_sound.Goals as goal

pub returns : goal.returns
returns c = record {
  opened = sound.opened-sound;
  placed = sound.place-sound;
  released = sound.released-sound;
  filled = sound.filled-sound;
  run = sound.run-sound;
}
