use Rattle.std.proofs.Common.{◌≡◌, arith, length, rules, refl}
use Rattle.code_region.specs.declared.refusals.PlaceError.TheVariants.{Empty, TooManyBlocks, Full}
use Rattle.code_region.specs.Gaps.{longest}
use Rattle.code_region.specs.State.{len_in_units, gaps_of}
use Rattle.c_calls.specs.Regions.{region_of}
use Rattle.c_calls.proofs.RegionCalls.{none-answer, many-answer, full-answer, rounded-some, refused-in, placed-in}
use Rattle.c_calls.proofs.region.reserve_in.Goals as goal

pub returns-then-len-eq0 : goal.returns-then-len-eq0
returns-then-len-eq0 c =
    refused-in c.args.region.now c.args.blocks.now c.args.len c.args.place.now Empty _
    (none-answer c.args.region.now c.args.blocks.now c.requires c.args.len (omega arith)) (search rules)

pub returns-then-count-blocks : goal.returns-then-count-blocks
returns-then-count-blocks c =
    refused-in c.args.region.now c.args.blocks.now c.args.len c.args.place.now (TooManyBlocks (length c.args.blocks.now)) _
    (many-answer c.args.region.now c.args.blocks.now c.requires c.args.len (λ (e : c.args.len ≡ 0). omega (arith, e)) (omega arith)) (search rules)

pub new_place-requires-clause-some : goal.new_place-requires-clause-some
new_place-requires-clause-some c = rw c.round_up-needed.ensures (rounded-some c.args.len (omega arith))

pub returns-in-None : goal.returns-in-None
returns-in-None c =
    let none = rw (c.end_of.ensures, c.round_up-needed.ensures, c.split_at.ensures.front) at c.in-None.ensures.none in
    refused-in c.args.region.now c.args.blocks.now c.args.len c.args.place.now (Full (len_in_units c.args.len) (longest (gaps_of (region_of c.args.region.now c.args.blocks.now)))) _
    (full-answer c.args.region.now c.args.blocks.now c.requires c.args.len (λ (e : c.args.len ≡ 0). omega (arith, e))
    (λ (e : c.args.region.now.count ≡ length c.args.blocks.now). omega (arith, e)) none) (search rules)

pub returns-in-Some : goal.returns-in-Some
returns-in-Some c =
    let new = rw (c.end_of.ensures, c.round_up-needed.ensures, c.split_at.ensures.front) at c.in-Some.ensures.found in
    placed-in c.args.region.now c.args.blocks.now c.put_block.new.blocks c.args.len c.in-Some.new.index c.in-Some.new.place _ c.requires
    (λ (e : c.args.len ≡ 0). omega (arith, e)) (omega arith) new refl _ (rw c.round_up-needed.ensures refl) c.put_block.ensures (omega arith) c.args.place.now
