use Rattle.block_encoder.proofs.laws.moved_blocks_keep_their_laws.Goals as goal

pub returns : goal.returns
returns c = record {
  read = c.moved_code_is_read_as_images.ensures;
  places = c.images_stand_at_their_places.ensures.place;
  ends = c.images_stand_at_their_places.ensures.end;
  slots = c.slots_have_their_goals.ensures;
  stays = c.images_go_to_their_goals.ensures.stays;
  address = c.images_go_to_their_goals.ensures.address;
  near = c.images_go_to_their_goals.ensures.near;
  far = c.images_go_to_their_goals.ensures.far;
  over = c.images_go_to_their_goals.ensures.over;
}
