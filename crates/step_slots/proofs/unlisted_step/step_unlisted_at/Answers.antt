use Rattle.std.proofs.Common.{ℕ, take, refl, subst}
use Rattle.step_slots.specs.UnlistedStep.{IsShapeStood, measured, not_measured}
use Rattle.step_slots.proofs.unlisted_step.step_unlisted_at.Goals as goal

pub returns-in-Ok-clause-answer : goal.returns-in-Ok-clause-answer
returns-in-Ok-clause-answer c =
    measured c.in-Ok.shape c.in-Ok.ensures.measured
    (subst (λ (n : ℕ). IsShapeStood c.args.bits c.args.ip (take n c.args.bytes.now) c.args.place c.in-Ok.shape c.stand_shape.result) c.from.ensures
    c.stand_shape.ensures.answer)

pub returns-in-Err-clause-answer : goal.returns-in-Err-clause-answer
returns-in-Err-clause-answer c = not_measured c.in-Err.why c.in-Err.ensures.measured refl
