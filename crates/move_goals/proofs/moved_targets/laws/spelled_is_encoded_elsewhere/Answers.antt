use Rattle.move_goals.proofs.MovedTargets.Elsewhere.{encoded-elsewhere}
use Rattle.move_goals.proofs.moved_targets.laws.spelled_is_encoded_elsewhere.Goals as goal

pub returns : goal.returns
returns c = λ bits old place t bytes i four s none reach within below. encoded-elsewhere c.encodings_are_plain.ensures c.spelled_meets_conditions.ensures bits old place t bytes i s none reach within below
