use Rattle.instruction_info.proofs.LawTests.{string-repeats, counter-last}
use Rattle.instruction_info.proofs.laws.strings_repeat.Goals as goal

pub returns-clause-rows : goal.returns-clause-rows
returns-clause-rows c = string-repeats

pub returns-clause-counter : goal.returns-clause-counter
returns-clause-counter c = counter-last
