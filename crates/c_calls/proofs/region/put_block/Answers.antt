use Rattle.c_calls.proofs.RegionCalls.{put-is}
use Rattle.c_calls.proofs.region.put_block.Goals as goal

pub returns : goal.returns
returns c = rw c.copy_within.ensures.after (put-is c.args.blocks.now c.args.count c.args.index c.args.block c.requires.inside c.requires.room)
