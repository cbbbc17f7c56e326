use Rattle.std.proofs.Common.{◌<◌, ◌^◌, subst, sym}
use Rattle.x86_values.specs.Wrapping.{width}
use Rattle.step_slots.proofs.UnlistedSteps.{distance-below}
use Rattle.step_slots.proofs.unlisted_step.number_at.Goals as goal

pub is_held-requires : goal.is_held-requires
is_held-requires c = rw c.distance-number.ensures (distance-below c.reference_size-size.result _ _)
