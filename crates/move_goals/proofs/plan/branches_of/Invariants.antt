use Rattle.std.proofs.Common.{◌≡◌, ◌+◌, map}
use Rattle.std.specs.List.{range_with_len}
use Rattle.branch_sizes.specs.Layout.{first_of_block, span_at}
use Rattle.move_goals.specs.Plan.{branch_at}
use Rattle.move_goals.proofs.plan.branches_of.Given as goal

abbrev pub invariant-items : goal.invariant-items
invariant-items l = record {
  from_is : l.from ≡ first_of_block l.spans l.span-index;
  to_is : l.to ≡ l.from + (span_at l.spans l.span-index).count;
  planned : l.branches.items ≡ map (branch_at l.bits l.spans l.items) (range_with_len 0 l.k);
}

abbrev pub invariant-loop-span : goal.invariant-loop-span
invariant-loop-span l = record {
  from_is : l.from ≡ first_of_block l.spans l.span-index;
  planned : l.branches.items ≡ map (branch_at l.bits l.spans l.items) (range_with_len 0 l.from);
}
