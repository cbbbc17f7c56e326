-- Each item stands in its own block.
use Rattle.std.proofs.Common.{arith}
use Rattle.branch_sizes.specs.Layout.{block_number}
use Rattle.block_encoder.proofs.Standing.{block-length, item-stands}
use Rattle.block_encoder.proofs.laws.images_stand_at_their_places.Goals as goal

pub returns-clause-place : goal.returns-clause-place
returns-clause-place c = λ bits items spans goals s m moved k lt.
    item-stands c.laws_below.ensures bits items spans goals moved.layout moved.least.closed.is_layout s (block_number spans k) (c.laws_below.ensures.blocks.block_below spans k (omega (arith, lt, s.counts)))
    (λ j jl. (moved.reached j jl).1) k (c.laws_below.ensures.blocks.first_le spans k) (c.laws_below.ensures.blocks.within_block spans k (omega (arith, lt, s.counts)))

pub returns-clause-end : goal.returns-clause-end
returns-clause-end c = λ bits items spans goals s m moved b bl.
    block-length c.laws_below.ensures bits items spans goals moved.layout moved.least.closed.is_layout s b bl (λ j jl. (moved.reached j jl).1)
