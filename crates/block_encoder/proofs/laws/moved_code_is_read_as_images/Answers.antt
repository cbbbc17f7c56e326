-- The images of each block are read as their instructions, since each has its bytes.
use Rattle.block_encoder.proofs.Joined.{block-read}
use Rattle.block_encoder.proofs.laws.moved_code_is_read_as_images.Goals as goal

pub returns : goal.returns
returns c = λ bits items spans goals s placed m moved b bl.
    block-read c.laws_below.ensures bits items spans goals moved.layout moved.least.closed.is_layout s placed b bl (λ k lt. (moved.reached k lt).1)
