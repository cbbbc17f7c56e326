use Rattle.step_slots.proofs.Kept.{kept-seen}
use Rattle.step_slots.proofs.slots.StepSlots.live.Goals as goal

pub returns-clause-apart : goal.returns-clause-apart
returns-clause-apart c =
    let f = c.self.inside in
    kept-seen c.laws_below.ensures f.bits f.region f.live.items _ c.self.invariant.1 c.args.self.now c.self.view_is
