use Rattle.unlisted.proofs.Answers.{one-answer}
use Rattle.unlisted.proofs.laws.answers_are_unique.Goals as goal

pub returns : goal.returns
returns c = one-answer
