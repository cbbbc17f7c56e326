use Rattle.std.proofs.Common.{◌≡◌, ◌≤◌, ◌+◌, length}
use Rattle.assembly_text.specs.Lines.{lines_in}
use Rattle.assembly_text.specs.Constants.{bad_from}
use Rattle.assembly_text.proofs.constants.bad_name.Given as goal

abbrev pub invariant-lines : goal.invariant-lines
invariant-lines l = record {
  same : bad_from (lines_in l.names) 0 ≡ bad_from (lines_in l.rest) l.count;
  few : l.count + length l.rest ≤ length l.names;
}

abbrev pub decreases-lines : goal.decreases-lines
decreases-lines l = length l.rest
