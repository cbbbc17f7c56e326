use Rattle.std.proofs.Common.{◌^◌, ◌-◌, ◌<◌}
use Rattle.branch_sizes.proofs.limits.power_above.Given as goal

abbrev pub invariant-powers : goal.invariant-powers
invariant-powers l = record {
  some : 0 < l.power;
  small : l.power < 2 ^ 33;
}

abbrev pub decreases-powers : goal.decreases-powers
decreases-powers l = l.count - l.power
