use Rattle.std.proofs.Common.{◌≡◌, ◌/◌, length}
use Rattle.branch_sizes.proofs.limits.set_limit.Given as goal

abbrev pub invariant-levels : goal.invariant-levels
invariant-levels l = l.half ≡ length l.parts / 2

abbrev pub decreases-levels : goal.decreases-levels
decreases-levels l = l.u
