-- The slot is one of the block of the item.
use Rattle.std.proofs.Common.{arith}
use Rattle.branch_sizes.specs.Layout.{block_number}
use Rattle.block_encoder.proofs.Standing.{slot-stands}
use Rattle.block_encoder.proofs.laws.slots_have_their_goals.Goals as goal

pub returns : goal.returns
returns c = λ bits items spans goals s m moved k lt far.
    slot-stands c.laws_below.ensures bits items spans goals moved.layout moved.least.closed.is_layout s (block_number spans k) (c.laws_below.ensures.blocks.block_below spans k (omega (arith, lt, s.counts)))
    (λ j jl. (moved.reached j jl).1) k (c.laws_below.ensures.blocks.first_le spans k) (c.laws_below.ensures.blocks.within_block spans k (omega (arith, lt, s.counts))) far
