use Rattle.std.proofs.Common.{sym, subst, ℕ, List}
use Rattle.detour.specs.HookSlots.State.{HooksState}
use Rattle.detour.specs.HookSlots.Holding.{HoldsHooks}
use Rattle.detour.proofs.HookSlots.Kept.{kept-holds}
use Rattle.detour.proofs.hook_slots.hooking.Hooks.image.Goals as goal

pub returns-clause-hooks : goal.returns-clause-hooks
returns-clause-hooks c =
    let f = c.self.inside in
    let seen : HooksState = record { bits = f.range.bits; slot = f.range.slot; region = f.region; hooks = f.live.items } in
    let held = kept-holds c.laws_below.ensures seen _ c.self.invariant.kept in
    subst (λ (s : HooksState). HoldsHooks s c.image.result.now) c.self.view_is (subst (λ (xs : List ℕ). HoldsHooks seen xs) (sym c.image.ensures) held)
