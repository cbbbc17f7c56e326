use Rattle.std.proofs.Common.{◌≡◌, ◌+◌, ◌<◌, ℕ, true}
use Rattle.branch_sizes.specs.Layout.{first_of_block, span_at}
use Rattle.move_goals.specs.Items.{is_in_order}
use Rattle.move_goals.proofs.order.first_disorder.Given as goal

abbrev pub invariant-rest : goal.invariant-rest
invariant-rest l = record {
  start_is : l.start ≡ first_of_block l.spans l.span-index;
  end_is : l.end ≡ l.start + (span_at l.spans l.span-index).count;
  ordered : (j : ℕ) → j < l.k → j < l.end → is_in_order l.spans l.items j ≡ true;
}

abbrev pub invariant-loop-span : goal.invariant-loop-span
invariant-loop-span l = record {
  start_is : l.start ≡ first_of_block l.spans l.span-index;
  ordered : (j : ℕ) → j < l.start → is_in_order l.spans l.items j ≡ true;
}
