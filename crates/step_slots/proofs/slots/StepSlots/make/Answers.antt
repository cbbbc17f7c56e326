use Rattle.std.proofs.Common.{sym, ap, ◌∙◌}
use Rattle.code_region.specs.State.{RegionState}
use Rattle.step_slots.proofs.Kept.{kept-made}
use Rattle.step_slots.proofs.slots.StepSlots.make.Goals as goal

pub invariant_of-result : goal.invariant_of-result
invariant_of-result c = (
  sym (ap (λ (r : RegionState). r.base) c.in-Ok.ensures.ok),
  kept-made c.laws_below.ensures c.args.bits c.args.base c.args.size c.args.max_blocks (sym c.refusal_of.ensures ∙ c.in_default.is) c.in-Ok.region c.in-Ok.ensures.ok
      _ c.in-Ok-with_capacity.ensures.items _ c.in-Ok-with_capacity.ensures.capacity,
)
