use Rattle.instruction_info.proofs.LawTests.{call-pushes}
use Rattle.instruction_info.proofs.laws.calls_push.Goals as goal

pub returns : goal.returns
returns c = call-pushes
