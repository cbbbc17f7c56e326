use Rattle.std.proofs.Common.{◌≤◌, length}
use Rattle.branch_sizes.proofs.suspects.inner_branches.Given as goal

abbrev pub invariant-items : goal.invariant-items
invariant-items l = length l.numbers.items ≤ l.k
