use Rattle.block_encoder.proofs.laws_below.laws_below.Goals as goal

pub returns : goal.returns
returns c = record {
  rows = c.rows_are_of_the_parts.ensures;
  encodings = c.encodings_are_plain.ensures;
  spelled = c.spelled_meets_conditions.ensures;
  blocks = c.blocks_have_all_items.ensures;
  lengths = c.images_are_short.ensures;
  totals = c.totals_rise.ensures;
  distances = c.near_addresses_are_reached.ensures;
  targets = c.spellings_are_moved.ensures;
  codes = c.codes_have_their_rows.ensures;
  pieces = c.pieces_have_their_lengths.ensures;
  forms = c.forms_are_fit.ensures;
  firsts = c.first_numbers_pass.ensures;
  plans = c.plans_are_well_formed.ensures;
  ends = c.blocks_end_behind_their_slots.ensures;
  slots = c.far_forms_have_slots.ensures;
}
