use Rattle.unlisted.proofs.Answers.{not-read, stays}
use Rattle.unlisted.proofs.laws.measured_bytes_are_not_read.Goals as goal

pub returns : goal.returns
returns c = λ bits bytes more shape ip d h. (not-read bits bytes shape ip d h, not-read bits _ shape ip d (stays bits bytes more shape h))
