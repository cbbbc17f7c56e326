use Rattle.code_region.proofs.laws.sound_regions_keep_their_laws.Goals as goal

pub returns : goal.returns
returns c = record {
  opened-sound = c.regions_stay_sound.ensures.opened;
  placed-sound = c.regions_stay_sound.ensures.placed;
  released-sound = c.regions_stay_sound.ensures.released;
  filled-sound = c.regions_stay_sound.ensures.filled;
  inside = c.live_blocks_stay_inside.ensures;
  disjoint = c.live_blocks_stay_disjoint.ensures;
  contents = c.image_holds_contents.ensures;
  restores = c.release_restores.ensures;
}
