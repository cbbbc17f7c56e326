use Rattle.assembly_text.proofs.Cutting.{IsUnended}
use Rattle.assembly_text.proofs.line.ended_line.Given as goal

abbrev pub invariant-loop-at : goal.invariant-loop-at
invariant-loop-at l = IsUnended l.bytes l.at
