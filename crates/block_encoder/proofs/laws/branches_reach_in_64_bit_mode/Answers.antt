-- The last form goes through a slot, and reaches everything.
use Rattle.block_encoder.proofs.Branching.{reached-in_64}
use Rattle.block_encoder.proofs.laws.branches_reach_in_64_bit_mode.Goals as goal

pub returns : goal.returns
returns c = λ items spans s placed few layout least inside k t lt near. reached-in_64 c.laws_below.ensures items spans s placed few layout least inside k lt t near
