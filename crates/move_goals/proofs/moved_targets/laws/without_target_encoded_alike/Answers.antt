use Rattle.move_goals.proofs.MovedTargets.Alike.{encoded-alike}
use Rattle.move_goals.proofs.moved_targets.laws.without_target_encoded_alike.Goals as goal

pub returns : goal.returns
returns c = encoded-alike
