use Rattle.operand_info.proofs.LawTests.{target-of_flow}
use Rattle.operand_info.proofs.laws.direct_flows_hold_their_target.Goals as goal

pub returns : goal.returns
returns c = target-of_flow
