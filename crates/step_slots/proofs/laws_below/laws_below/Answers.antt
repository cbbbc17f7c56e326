use Rattle.step_slots.proofs.laws_below.laws_below.Goals as goal

pub returns : goal.returns
returns c = record {
  codes = c.codes_have_their_rows.ensures;
  plans = c.plans_are_well_formed.ensures;
  fragments = c.plans_lay_out_their_items.ensures;
  reach = c.items_reach_their_goals.ensures;
  last = c.last_forms_bound_the_length.ensures;
  jumps = c.near_jumps_are_encoded.ensures;
  regions = c.sound_regions_keep_their_laws.ensures;
  places = c.places_are_gaps.ensures;
  fills = c.placed_blocks_are_filled.ensures;
  entries = c.entries_go_with_their_blocks.ensures;
}
