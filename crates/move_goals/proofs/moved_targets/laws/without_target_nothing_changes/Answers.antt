use Rattle.move_goals.proofs.MovedTargets.Aims.{untargeted-with_target}
use Rattle.move_goals.proofs.moved_targets.laws.without_target_nothing_changes.Goals as goal

pub returns : goal.returns
returns c = λ t i four h. untargeted-with_target t i four h
