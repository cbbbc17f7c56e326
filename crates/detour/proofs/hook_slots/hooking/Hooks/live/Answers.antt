use Rattle.std.proofs.Common.{subst}
use Rattle.detour.specs.HookSlots.State.{HooksState}
use Rattle.detour.specs.HookSlots.Patches.{PatchesAreApart}
use Rattle.detour.specs.HookSlots.Layers.{AreLayered}
use Rattle.detour.specs.HookSlots.Holding.{HooksAreApart, AreDetours}
use Rattle.detour.proofs.HookSlots.Kept.{kept-apart, kept-detours}
use Rattle.detour.proofs.hook_slots.hooking.Hooks.live.Goals as goal

pub returns-clause-apart : goal.returns-clause-apart
returns-clause-apart c =
    let f = c.self.inside in
    let seen : HooksState = record { bits = f.range.bits; slot = f.range.slot; region = f.region; hooks = f.live.items } in
    subst HooksAreApart c.self.view_is (kept-apart c.laws_below.ensures seen _ c.self.invariant.kept)

pub returns-clause-patches : goal.returns-clause-patches
returns-clause-patches c =
    let f = c.self.inside in
    subst (λ (s : HooksState). PatchesAreApart s.bits s.region s.hooks) c.self.view_is c.self.invariant.kept.patches

pub returns-clause-layers : goal.returns-clause-layers
returns-clause-layers c =
    subst (λ (s : HooksState). AreLayered s.hooks) c.self.view_is c.self.invariant.kept.layers

pub returns-clause-detours : goal.returns-clause-detours
returns-clause-detours c =
    let f = c.self.inside in
    let seen : HooksState = record { bits = f.range.bits; slot = f.range.slot; region = f.region; hooks = f.live.items } in
    subst AreDetours c.self.view_is (kept-detours c.laws_below.ensures seen _ c.self.invariant.kept)
