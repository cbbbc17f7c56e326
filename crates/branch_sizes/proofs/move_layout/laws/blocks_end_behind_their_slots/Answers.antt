use Rattle.branch_sizes.proofs.MoveLayout.Laid as laid
use Rattle.branch_sizes.proofs.MoveLayout.Standing as standing
use Rattle.branch_sizes.proofs.move_layout.laws.blocks_end_behind_their_slots.Goals as goal

pub returns : goal.returns
returns c = record {
  place-within = standing.place-within c.blocks_have_all_items.ensures c.totals_rise.ensures;
  images-le-slots = laid.images-le-slots;
  slots-aligned = laid.slots-aligned;
  images-le-end = laid.images-le-end;
  end-without-slots = laid.end-without-slots;
  end-with-slots = laid.end-with-slots;
  end-images = laid.end-images;
  end-slots = laid.end-slots;
  end-end = laid.end-end;
}
