use Rattle.std.proofs.Common.{◌≡◌, ◌++◌, ◌≤◌, ◌*◌}
use Rattle.text_parts.specs.Numbers.{last_digits}
use Rattle.text_parts.proofs.numbers.append_last_bytes.Given as goal

abbrev pub invariant-loop-left : goal.invariant-loop-left
invariant-loop-left g l = record {
  few : l.left ≤ l.count;
  whole : l.out.items ++ last_digits (2 * l.left) l.n ≡ l.initial.out.items ++ last_digits (2 * l.count) l.n;
}

abbrev pub decreases-loop-left : goal.decreases-loop-left
decreases-loop-left g l = l.left
