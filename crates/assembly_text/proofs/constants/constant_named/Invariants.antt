use Rattle.std.proofs.Common.{◌≡◌, length}
use Rattle.assembly_text.specs.Lines.{lines_in}
use Rattle.assembly_text.specs.Constants.{constant_from}
use Rattle.assembly_text.proofs.constants.constant_named.Given as goal

abbrev pub invariant-lines : goal.invariant-lines
invariant-lines l = constant_from (lines_in l.names) l.name ≡ constant_from (lines_in l.rest) l.name

abbrev pub decreases-lines : goal.decreases-lines
decreases-lines l = length l.rest
