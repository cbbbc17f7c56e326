use Rattle.instruction_info.proofs.LawTests.{condition-read}
use Rattle.instruction_info.proofs.laws.conditions_are_read.Goals as goal

pub returns : goal.returns
returns c = condition-read
