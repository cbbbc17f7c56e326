use Rattle.std.proofs.Common.{◌∙◌, ap, sym, option_map}
use Rattle.code_region.specs.State.{len_of}
use Rattle.code_region.proofs.Found.{apart-addresses, at-same, nowhere-same, live_block-nowhere, len-found}
use Rattle.code_region.proofs.blocks.Region.block_len.Goals as goal

pub find_place-requires : goal.find_place-requires
find_place-requires c =
    let f = c.self.inside in
    apart-addresses f.base f.max_blocks _ f.bytes.items f.spans.items _ c.deref.ensures.value c.self.invariant.0

pub returns-in_err-index : goal.returns-in_err-index
returns-in_err-index c =
    let f = c.self.inside in
    let none = nowhere-same f.base c.args.place _ f.spans.items c.deref.ensures.value (c.in_err-index.ensures {u = tt}).missing in
    c.from_residual.ensures ∙
    sym (ap (λ found. option_map len_of found) (live_block-nowhere f.base f.max_blocks f.bytes.items f.spans.items c.args.self.now c.args.place c.self.view_is none))

pub returns : goal.returns
returns c =
    let f = c.self.inside in
    let at = at-same f.base c.args.place _ f.spans.items c.in_ok-index.index c.deref.ensures.value (c.in_ok-index.ensures {u = tt}).found in
    rw c.from.ensures
    (len-found f.base f.max_blocks _ c.args.place c.in_ok-index.index f.bytes.items f.spans.items c.args.self.now c.index.result.now c.self.view_is c.self.invariant.0 at c.index.ensures)
