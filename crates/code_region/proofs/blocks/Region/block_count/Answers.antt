use Rattle.std.proofs.Common.{subst}
use Rattle.code_region.specs.State.{RegionState}
use Rattle.code_region.specs.Keeping.{IsSound}
use Rattle.code_region.proofs.Views.{sound-view}
use Rattle.code_region.proofs.blocks.Region.block_count.Goals as goal

pub returns-clause-sound : goal.returns-clause-sound
returns-clause-sound c =
    let f = c.self.inside in
    let P : RegionState → Type 0 = λ state. IsSound state in
    subst P c.self.view_is (sound-view f.base f.max_blocks f.bytes.items f.spans.items c.self.invariant.0.apart)
