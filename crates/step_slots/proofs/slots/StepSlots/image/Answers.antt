use Rattle.step_slots.proofs.Kept.{kept-image}
use Rattle.step_slots.proofs.slots.StepSlots.image.Goals as goal

pub returns-clause-slots : goal.returns-clause-slots
returns-clause-slots c =
    let f = c.self.inside in
    kept-image c.laws_below.ensures f.bits f.region f.live.items _ c.self.invariant.1 c.args.self.now c.self.view_is c.image.result.now c.image.ensures
