use Rattle.std.proofs.Common.{arith, rules, refl}
use Rattle.c_calls.proofs.RegionCalls.{not-released, released-in}
use Rattle.c_calls.proofs.region.release_in.Goals as goal

pub returns-in-None : goal.returns-in-None
returns-in-None c =
    let none = rw c.split_at.ensures.front at c.in-None.ensures.none in
    not-released c.args.region.now c.args.blocks.now c.args.place _ c.requires none (search rules)

pub returns-in-Some : goal.returns-in-Some
returns-in-Some c =
    let found = rw c.split_at.ensures.front at c.in-Some.ensures.found in
    released-in c.args.region.now c.args.blocks.now c.take_block.new.blocks c.args.place c.in-Some.index _ c.requires found refl c.take_block.ensures (omega arith)
