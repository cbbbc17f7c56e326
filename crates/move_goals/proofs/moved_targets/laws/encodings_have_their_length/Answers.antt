use Rattle.move_goals.proofs.MovedTargets.Lengths.{encoding-length}
use Rattle.move_goals.proofs.moved_targets.laws.encodings_have_their_length.Goals as goal

pub returns : goal.returns
returns c = λ bits ip i bytes four h. encoding-length c.spelled_meets_conditions.ensures bits ip i bytes h
