use Rattle.instruction_info.proofs.LawTests.{slots-moved}
use Rattle.instruction_info.proofs.laws.calls_and_returns_move_their_slots.Goals as goal

pub returns : goal.returns
returns c = slots-moved
