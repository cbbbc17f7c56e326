use Rattle.std.proofs.Common.{◌≡◌, length, true}
use Rattle.std.specs.List.{list_all}
use Rattle.branch_sizes.specs.Plan.{is_fit_branch}
use Rattle.moving_tests.proofs.tests.size_tests.items_of.Given as goal

abbrev pub invariant-items : goal.invariant-items
invariant-items l = record {
  len : length l.items.items ≡ l.i;
  fit : list_all (is_fit_branch l.count) l.items.items ≡ true;
}
