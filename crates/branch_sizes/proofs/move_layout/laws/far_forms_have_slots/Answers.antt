use Rattle.branch_sizes.proofs.MoveLayout.Blocks as blocks
use Rattle.branch_sizes.proofs.MoveLayout.Laid as laid
use Rattle.branch_sizes.proofs.move_layout.laws.far_forms_have_slots.Goals as goal

pub returns : goal.returns
returns c = record {
  length-far_goals = blocks.length-far_goals;
  few-slots = laid.few-slots;
  length-all_slots = laid.length-all_slots;
  slot-number-below = laid.slot-number-below;
  slot-has-goal = laid.slot-has-goal;
  slot-from = laid.slot-from;
  slot-within = laid.slot-within;
}
