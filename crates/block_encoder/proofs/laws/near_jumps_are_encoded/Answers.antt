use Rattle.block_encoder.proofs.Jumping.{jump-placed, jump-encoded}
use Rattle.block_encoder.proofs.laws.near_jumps_are_encoded.Goals as goal

pub returns : goal.returns
returns c = record {
  jump-placed = jump-placed c.laws_below.ensures;
  jump-encoded = jump-encoded c.laws_below.ensures;
}
