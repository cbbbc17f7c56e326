use Rattle.std.proofs.Common.{◌∙◌, sym, ap}
use Rattle.code_region.specs.State.{region_image}
use Rattle.code_region.proofs.Views.{image_of-view}
use Rattle.code_region.proofs.blocks.Region.image.Goals as goal

pub returns : goal.returns
returns c =
    let f = c.self.inside in
    c.deref.ensures.value ∙ sym (image_of-view f.base f.max_blocks f.bytes.items f.spans.items c.self.invariant.0.apart c.self.invariant.0.quiet) ∙
    ap region_image c.self.view_is
