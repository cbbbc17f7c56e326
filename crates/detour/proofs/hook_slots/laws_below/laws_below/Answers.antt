use Rattle.detour.proofs.hook_slots.laws_below.laws_below.Goals as goal

pub returns : goal.returns
returns c = record {
  regions = c.sound_regions_keep_their_laws.ensures;
  fills = c.placed_blocks_are_filled.ensures;
  entries = c.entries_go_with_their_blocks.ensures;
}
