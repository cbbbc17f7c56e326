use Rattle.std.proofs.Common.{◌≡◌, ◌+◌}
use Rattle.branch_sizes.specs.Layout.{total, image_length}
use Rattle.move_goals.specs.Plan.{plan_outside}
use Rattle.branch_sizes.specs.MoveLayout.Laid.{far_goals}
use Rattle.block_encoder.specs.Last.{last_layout}
use Rattle.block_encoder.proofs.last.last_len.Given as goal

abbrev pub invariant-items : goal.invariant-items
invariant-items l = record {
  images_is : l.images
      ≡ l.new_base + total (image_length (plan_outside l.bits l.items l.new_base) (last_layout (plan_outside l.bits l.items l.new_base))) l.k;
  goals_is : l.goals.items ≡ far_goals (plan_outside l.bits l.items l.new_base) (last_layout (plan_outside l.bits l.items l.new_base)) 0 l.k;
}
