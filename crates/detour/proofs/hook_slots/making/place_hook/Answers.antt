use Rattle.std.proofs.Common.{◌≡◌, ◌∙◌, ap, sym, subst, arith, length, Result, Ok}
use Rattle.std.specs.Prelude.{IsTrue, OnErr}
use Rattle.code_region.specs.State.{RegionState}
use Rattle.code_region.specs.Filling.{can_fill}
use Rattle.detour.specs.declared.hook_slots.making.Hook.{Hook}
use Rattle.detour.specs.declared.hook_slots.refusals.InstallError.{InstallError}
use Rattle.detour.specs.HookSlots.Installing.{IsForSlots, IsHookAnswer}
use Rattle.detour.proofs.HookSlots.Spaced.{is-full}
use Rattle.detour.proofs.HookSlots.Kept.{full-placed, slot-can_fill}
use Rattle.detour.proofs.hook_slots.making.place_hook.Goals as goal

pub place_refusal-requires : goal.place_refusal-requires
place_refusal-requires c =
    let full = is-full c.args.rule.range.slot c.args.region.now c.requires.slots c.requires.sound c.in-Err.why (sym c.place.ensures.answer ∙ c.in-Err.is) in
    subst IsForSlots (sym full.0) tt

pub returns-in-Err : goal.returns-in-Err
returns-in-Err c =
    let region = c.args.region.now in
    let same = subst (λ r. OnErr r (c.place.new.self ≡ region)) c.in-Err.is c.place.ensures.refused in
    full-placed c.args.rule c.args.live.now region c.requires.sound c.requires.slots c.args.ip c.args.code.now c.args.to c.args.start c.in-Err.why
    (sym c.place.ensures.answer ∙ c.in-Err.is) c.place.new.self same _ c.place_refusal.ensures

pub fill-requires : goal.fill-requires
fill-requires c =
    let region = c.args.region.now in
    let place = c.in-Ok.place in
    let hook = c.in-Ok-hook_at.hook in
    let P : Result Hook InstallError → Type 0 = λ r. IsHookAnswer c.args.rule c.args.live.now c.args.ip c.args.code.now c.args.to c.args.start place r in
    let made : P (Ok hook) = subst P c.in-Ok-hook_at.is c.hook_at.ensures in
    let long = ap length c.trampoline.ensures in
    let short = made.0.1 in
    subst (λ (r : RegionState). IsTrue (can_fill r place (length c.trampoline.result.now))) (sym c.place.ensures.state)
    (slot-can_fill c.laws_below.ensures c.args.rule.range.slot region c.requires.sound c.requires.slots place (sym c.place.ensures.answer ∙ c.in-Ok.is) _ (omega (arith, long, short)))
