use Rattle.move_goals.proofs.MovedTargets.Lengths.{with_target-length}
use Rattle.move_goals.proofs.moved_targets.laws.aim_keeps_the_length.Goals as goal

pub returns : goal.returns
returns c = λ bits t i. with_target-length bits t i
