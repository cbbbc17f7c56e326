use Rattle.c_calls.proofs.RegionCalls.{taken-is}
use Rattle.c_calls.proofs.region.take_block.Goals as goal

pub returns : goal.returns
returns c = rw c.copy_within.ensures.after (taken-is c.args.blocks.now c.args.count c.args.index c.requires.inside c.requires.room)
