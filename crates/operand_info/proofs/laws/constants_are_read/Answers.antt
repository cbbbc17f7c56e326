use Rattle.operand_info.proofs.LawTests.{constant-read}
use Rattle.operand_info.proofs.laws.constants_are_read.Goals as goal

pub returns : goal.returns
returns c = constant-read
