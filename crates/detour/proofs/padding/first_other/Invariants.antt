use Rattle.std.proofs.Common.{◌≤◌, ◌-◌, length}
use Rattle.detour.specs.Padding.{IsPaddingTo}
use Rattle.detour.proofs.padding.first_other.Given as goal

abbrev pub invariant-offset : goal.invariant-offset
invariant-offset l = record {
  before : IsPaddingTo l.bits l.base l.padding l.offset;
  within : l.offset ≤ length l.padding;
}

abbrev pub decreases-offset : goal.decreases-offset
decreases-offset l = length l.padding - l.offset
