use Rattle.listing_run.proofs.AsmRun.Cutting.{IsUnended}
use Rattle.listing_run.proofs.asm_run.code_lines.first_line.Given as goal

abbrev pub invariant-loop-at : goal.invariant-loop-at
invariant-loop-at l = IsUnended l.bytes l.at
