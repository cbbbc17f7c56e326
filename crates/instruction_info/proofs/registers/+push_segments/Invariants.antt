use Rattle.std.proofs.Common.{length}
use Rattle.instruction_info.proofs.registers.+push_segments.Given as goal

abbrev pub decreases-push_segments : goal.decreases-push_segments
decreases-push_segments l = length l.memory.now
