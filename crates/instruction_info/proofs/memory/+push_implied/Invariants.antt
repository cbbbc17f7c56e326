use Rattle.std.proofs.Common.{length}
use Rattle.instruction_info.proofs.memory.+push_implied.Given as goal

abbrev pub decreases-push_implied : goal.decreases-push_implied
decreases-push_implied l = length l.memory.now
