use Rattle.move_goals.proofs.MovedTargets.Lengths.{spelled-length}
use Rattle.move_goals.proofs.moved_targets.laws.spelled_is_short.Goals as goal

pub returns : goal.returns
returns c = λ bits ip bytes i four s. spelled-length c.spelled_meets_conditions.ensures bits ip bytes i s
