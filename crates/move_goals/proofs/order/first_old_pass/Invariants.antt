use Rattle.std.proofs.Common.{◌≡◌, ◌<◌, ℕ, false}
use Rattle.branch_sizes.specs.Layout.{first_of_block}
use Rattle.move_goals.specs.Items.{passes, block_old_end}
use Rattle.move_goals.proofs.order.first_old_pass.Given as goal

abbrev pub invariant-loop-span : goal.invariant-loop-span
invariant-loop-span l = record {
  start_is : l.start ≡ first_of_block l.spans l.span-index;
  small : (b : ℕ) → b < l.span-index → passes l.bits (block_old_end l.spans l.items b) ≡ false;
}
