use Rattle.std.proofs.Common.{rules, length, ap, ◌∙◌}
use Rattle.std.proofs.lemmas.List.{get_or_read}
use Rattle.code_region.specs.declared.gaps.Span.{Span}
use Rattle.code_region.specs.Searching.{nowhere}
use Rattle.code_region.proofs.Apart.{AreApart-at}
use Rattle.code_region.proofs.Views.{index-view, place_and_len-view}
use Rattle.code_region.proofs.blocks.Region.block_at.Goals as goal

pub overflow_add-result : goal.overflow_add-result
overflow_add-result c =
    let f = c.self.inside in
    let within = index-view f.base f.max_blocks f.bytes.items f.spans.items c.args.self.now c.args.i c.self.view_is c.requires in
    let at = AreApart-at 0 (length f.bytes.items) f.spans.items c.args.i c.self.invariant.0.apart within in
    let read = ap (λ (s : Span). s.start) (get_or_read f.spans.items c.args.i c.index-span.result.now within c.index-span.ensures nowhere) in
    search rules

pub returns : goal.returns
returns c =
    let f = c.self.inside in
    let within = index-view f.base f.max_blocks f.bytes.items f.spans.items c.args.self.now c.args.i c.self.view_is c.requires in
    place_and_len-view f.base f.max_blocks f.bytes.items f.spans.items c.args.self.now c.args.i c.index-span.result.now c.self.view_is within c.index-span.ensures ∙ cc
