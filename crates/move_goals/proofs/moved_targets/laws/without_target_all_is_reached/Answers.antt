use Rattle.move_goals.proofs.MovedTargets.Alike.{reach-free}
use Rattle.move_goals.proofs.moved_targets.laws.without_target_all_is_reached.Goals as goal

pub returns : goal.returns
returns c = reach-free
