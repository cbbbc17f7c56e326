use Rattle.step_slots.proofs.calls_below.calls_below.Goals as goal

pub returns : goal.returns
returns c = record {
  lengths = c.images_are_short.ensures;
  ends = c.blocks_end_behind_their_slots.ensures;
  forms = c.forms_are_fit.ensures;
  plans = c.plans_are_well_formed.ensures;
  fragments = c.plans_lay_out_their_items.ensures;
  moved = c.moved_blocks_keep_their_laws.ensures;
  pushed = c.return_addresses_are_pushed.ensures;
}
