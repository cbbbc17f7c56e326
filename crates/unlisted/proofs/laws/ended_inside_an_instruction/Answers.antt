use Rattle.unlisted.proofs.Answers.{cut-inside}
use Rattle.unlisted.proofs.laws.ended_inside_an_instruction.Goals as goal

pub returns : goal.returns
returns c = cut-inside
