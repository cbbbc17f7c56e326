use Rattle.std.proofs.Common.{◌≤◌}
use Rattle.assembly_text.proofs.plain.line_start.Given as goal

abbrev pub invariant-bytes : goal.invariant-bytes
invariant-bytes l = l.start ≤ l.fn.at

abbrev pub decreases-bytes : goal.decreases-bytes
decreases-bytes l = l.start
