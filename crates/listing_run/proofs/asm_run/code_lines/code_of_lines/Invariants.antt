use Rattle.std.proofs.Common.{length}
use Rattle.listing_run.proofs.AsmRun.Going.{IsGone}
use Rattle.listing_run.proofs.asm_run.code_lines.code_of_lines.Given as goal

abbrev pub invariant-loop-rest : goal.invariant-loop-rest
invariant-loop-rest l = IsGone l.bits l.base l.input l.rest l.number l.code.items

abbrev pub decreases-loop-rest : goal.decreases-loop-rest
decreases-loop-rest l = length l.rest
