use Rattle.c_calls.proofs.OneTarget.{told-fails}
use Rattle.c_calls.proofs.laws.told_operands_fail.Goals as goal

pub returns : goal.returns
returns c = told-fails
