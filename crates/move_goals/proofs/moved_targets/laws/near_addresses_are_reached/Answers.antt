use Rattle.move_goals.proofs.MovedTargets.Nearby as nearby
use Rattle.move_goals.proofs.moved_targets.laws.near_addresses_are_reached.Goals as goal

pub returns : goal.returns
returns c = record {
  signed = nearby.signed;
  reached = nearby.reached;
  over-reached = nearby.over-reached;
}
