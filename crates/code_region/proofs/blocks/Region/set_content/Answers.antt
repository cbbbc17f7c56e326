use Rattle.std.proofs.Common.{arith, ap, length}
use Rattle.std.proofs.lemmas.List.{with_items_is}
use Rattle.code_region.specs.Contents.{content_bytes}
use Rattle.code_region.proofs.Found.{apart-addresses, at-same, nowhere-same, live_block-nowhere, found-inside, can_fill-none, fits-found, refilled-same}
use Rattle.code_region.proofs.blocks.Region.set_content.Goals as goal

pub find_place-requires : goal.find_place-requires
find_place-requires c =
    let f = c.self.inside in
    apart-addresses f.base f.max_blocks _ f.bytes.items f.spans.items _ c.deref.ensures.value c.self.invariant.0

pub unreachable-requires : goal.unreachable-requires
unreachable-requires c =
    let f = c.self.inside in
    let none = nowhere-same f.base c.args.place _ f.spans.items c.deref.ensures.value (c.in-None.ensures {u = tt}).missing in
    can_fill-none c.args.self.now c.args.place (length (content_bytes c.args.content))
    (live_block-nowhere f.base f.max_blocks f.bytes.items f.spans.items c.args.self.now c.args.place c.self.view_is none) c.requires

pub write-requires-clause-inside : goal.write-requires-clause-inside
write-requires-clause-inside c =
    let f = c.self.inside in
    let at = at-same f.base c.args.place _ f.spans.items c.in-Some.index c.deref.ensures.value (c.in-Some.ensures {u = tt}).found in
    let inside = found-inside f.base f.max_blocks _ c.args.place c.in-Some.index f.bytes.items f.spans.items c.index-span.result.now c.self.invariant.0 at c.index-span.ensures in
    let same = ap length c.deref_mut.ensures.value in
    omega arith

pub write-requires-clause-fits : goal.write-requires-clause-fits
write-requires-clause-fits c =
    let f = c.self.inside in
    let at = at-same f.base c.args.place _ f.spans.items c.in-Some.index c.deref.ensures.value (c.in-Some.ensures {u = tt}).found in
    fits-found f.base f.max_blocks _ c.args.place c.in-Some.index (length (content_bytes c.args.content)) f.bytes.items f.spans.items c.args.self.now c.index-span.result.now
    c.self.view_is c.self.invariant.0 at c.index-span.ensures c.requires

pub invariant_of-self : goal.invariant_of-self
invariant_of-self c =
    let f = c.self.inside in
    let written = with_items_is f.bytes c.write.new.image (omega arith) in (
      (refilled-same f.base f.max_blocks _ c.args.place c.in-Some.index f.bytes.items _ _ _ (content_bytes c.args.content) f.spans.items _ c.args.self.now c.index-span.result.now c.self.view_is
          c.self.invariant.0 c.deref.ensures.value (c.in-Some.ensures {u = tt}).found c.index-span.ensures c.requires c.deref_mut.ensures.value c.write.ensures written).0,
      c.self.invariant.1,
    )

pub returns : goal.returns
returns c =
    let f = c.self.inside in
    let written = with_items_is f.bytes c.write.new.image (omega arith) in
    (refilled-same f.base f.max_blocks _ c.args.place c.in-Some.index f.bytes.items _ _ _ (content_bytes c.args.content) f.spans.items _ c.args.self.now c.index-span.result.now c.self.view_is
    c.self.invariant.0 c.deref.ensures.value (c.in-Some.ensures {u = tt}).found c.index-span.ensures c.requires c.deref_mut.ensures.value c.write.ensures written).1
