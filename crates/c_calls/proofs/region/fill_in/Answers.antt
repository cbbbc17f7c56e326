use Rattle.std.proofs.Common.{arith, rules, refl}
use Rattle.c_calls.proofs.RegionsLaid.{laid_at}
use Rattle.c_calls.proofs.RegionCalls.{not-live, too-long, filled-in}
use Rattle.c_calls.specs.Regions.{live_of}
use Rattle.c_calls.proofs.region.fill_in.Goals as goal

pub returns-in_default : goal.returns-in_default
returns-in_default c =
    let none = rw c.split_at.ensures.front at c.in_default.ensures.none in
    not-live c.args.region.now c.args.blocks.now c.args.place c.args.bytes.now c.args.image.now _ none (search rules)

pub returns-then-bytes-block : goal.returns-then-bytes-block
returns-then-bytes-block c =
    let found = rw c.split_at.ensures.front at c.in-Some.ensures.found in
    let more = rw c.split_at.ensures.front at c.if-bytes-block.true in
    too-long c.args.region.now c.args.blocks.now c.args.place c.in-Some.index c.args.bytes.now c.args.image.now _ found more (search rules)

pub overflow_sub-start : goal.overflow_sub-start
overflow_sub-start c =
    let found = rw c.split_at.ensures.front at c.in-Some.ensures.found in
    let at = laid_at c.args.region.now.base _ (live_of c.args.region.now c.args.blocks.now) c.requires.region.laid c.in-Some.index found.within in
    rw c.split_at.ensures.front at.0

pub write_bytes-requires-clause-inside : goal.write_bytes-requires-clause-inside
write_bytes-requires-clause-inside c =
    let found = rw c.split_at.ensures.front at c.in-Some.ensures.found in
    let at = laid_at c.args.region.now.base _ (live_of c.args.region.now c.args.blocks.now) c.requires.region.laid c.in-Some.index found.within in
    rw c.split_at.ensures.front (omega (arith, at.0, at.1))

pub returns : goal.returns
returns c =
    let found = rw c.split_at.ensures.front at c.in-Some.ensures.found in
    let few = rw c.split_at.ensures.front at c.if-bytes-block.false in
    let is = rw c.split_at.ensures.front at c.write_bytes.ensures in
    filled-in c.args.region.now c.args.blocks.now c.args.place c.in-Some.index c.args.bytes.now c.args.image.now c.write_bytes.new.image _ found few refl is
