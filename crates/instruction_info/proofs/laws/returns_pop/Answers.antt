use Rattle.instruction_info.proofs.LawTests.{return-pops}
use Rattle.instruction_info.proofs.laws.returns_pop.Goals as goal

pub returns : goal.returns
returns c = return-pops
