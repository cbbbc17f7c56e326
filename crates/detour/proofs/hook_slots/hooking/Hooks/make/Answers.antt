use Rattle.std.proofs.Common.{sym, ◌∙◌, arith}
use Rattle.detour.proofs.HookSlots.Kept.{made-held, slot-good}
use Rattle.detour.proofs.hook_slots.hooking.Hooks.make.Goals as goal

pub nonzero_div-max : goal.nonzero_div-max
nonzero_div-max c =
    let some = (slot-good c.args.bits c.args.base c.args.size c.args.slot (sym c.refusal_of.ensures ∙ c.in_default.is)).some in
    omega (arith, some)

pub invariant_of-result : goal.invariant_of-result
invariant_of-result c =
    made-held c.laws_below.ensures (record { bits = c.args.bits; base = c.args.base; size = c.args.size; slot = c.args.slot }) (sym c.refusal_of.ensures ∙ c.in_default.is) c.in-Ok.region c.in-Ok.ensures.ok
    _ c.in-Ok-with_capacity.ensures.items _ c.in-Ok-with_capacity.ensures.capacity
