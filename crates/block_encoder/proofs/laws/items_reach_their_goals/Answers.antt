use Rattle.block_encoder.proofs.Branching.{branch-reached-in_64}
use Rattle.block_encoder.proofs.Spelled.{near-encoded}
use Rattle.block_encoder.proofs.laws.items_reach_their_goals.Goals as goal

pub returns : goal.returns
returns c = record {
  other-reached = c.only_targets_are_too_far.ensures;
  reached-in_64 = c.branches_reach_in_64_bit_mode.ensures;
  branch-reached-in_64 = branch-reached-in_64 c.laws_below.ensures;
  near-encoded = near-encoded c.laws_below.ensures;
  signed = c.laws_below.ensures.distances.signed;
}
