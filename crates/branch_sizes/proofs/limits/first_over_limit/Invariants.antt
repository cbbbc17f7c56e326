use Rattle.std.proofs.Common.{◌≡◌, ◌*◌, ◌-◌, ◌/◌, ◌<◌, ◌≤◌, length}
use Rattle.branch_sizes.proofs.limits.first_over_limit.Given as goal

abbrev pub invariant-levels : goal.invariant-levels
invariant-levels l = record {
  half_is : l.half ≡ length l.parts / 2;
  first : 1 ≤ l.u;
  last : l.u < 2 * l.half;
}

abbrev pub decreases-levels : goal.decreases-levels
decreases-levels l = 2 * l.half - l.u
