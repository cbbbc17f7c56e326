use Rattle.move_goals.proofs.MovedTargets.Aims.{with_target-target}
use Rattle.move_goals.proofs.moved_targets.laws.aimed_has_its_target.Goals as goal

pub returns : goal.returns
returns c = λ t old i four h. with_target-target t old i h
