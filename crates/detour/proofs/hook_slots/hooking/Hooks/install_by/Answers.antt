use Rattle.std.proofs.Common.{vec_capacity, Ok, ap, arith, refl, subst, sym, ◌∙◌, List, Result}
use Rattle.std.proofs.lemmas.Result.{err_from_is_err_and}
use Rattle.detour.specs.declared.hook_slots.making.Hook.{Hook}
use Rattle.detour.specs.declared.hook_slots.refusals.InstallError.{InstallError}
use Rattle.detour.specs.HookSlots.Installing.{IsHookPlaced, install_place, hooks_after}
use Rattle.detour.proofs.HookSlots.Kept.{kept-ascend, held-room, held-with, held-installed}
use Rattle.detour.proofs.hook_slots.hooking.Hooks.install_by.Goals as goal

pub insert_entry-requires-clause-ascend : goal.insert_entry-requires-clause-ascend
insert_entry-requires-clause-ascend c =
    let f = c.self.inside in
    kept-ascend c.laws_below.ensures f.range.bits f.range.slot f.region f.live.items _ c.self.invariant.kept

pub insert_entry-requires-clause-room : goal.insert_entry-requires-clause-room
insert_entry-requires-clause-room c =
    let f = c.self.inside in
    let P : Result Hook InstallError → Type 0 = λ r. IsHookPlaced (record { range = f.range; over = c.args.over }) c.deref.result.now f.region c.args.ip c.args.code.now c.args.to c.args.start r c.place_hook.new.region in
    let made =
    subst (λ (xs : List Hook). IsHookPlaced (record { range = f.range; over = c.args.over }) xs f.region c.args.ip c.args.code.now c.args.to c.args.start
    (Ok c.in_ok-hook.hook) c.place_hook.new.region) c.deref.ensures.value (subst P c.in_ok-hook.was c.place_hook.ensures) in
    let room = held-room c.laws_below.ensures f.range f.region f.live.items (vec_capacity f.live) c.self.invariant c.args.over c.args.ip c.args.code.now c.args.to c.args.start
    c.in_ok-hook.hook c.place_hook.new.region made in
    omega (arith, room, f.live.ok.0)

pub invariant_of-self-2 : goal.invariant_of-self-2
invariant_of-self-2 c =
    let f = c.self.inside in
    let P : Result Hook InstallError → Type 0 = λ r. IsHookPlaced (record { range = f.range; over = c.args.over }) c.deref.result.now f.region c.args.ip c.args.code.now c.args.to c.args.start r c.place_hook.new.region in
    let made =
    subst (λ (xs : List Hook). IsHookPlaced (record { range = f.range; over = c.args.over }) xs f.region c.args.ip c.args.code.now c.args.to c.args.start
    (Ok c.in_ok-hook.hook) c.place_hook.new.region) c.deref.ensures.value (subst P c.in_ok-hook.was c.place_hook.ensures) in
    held-with c.laws_below.ensures f.range f.region f.live.items (vec_capacity f.live) c.self.invariant c.args.over c.args.ip c.args.code.now c.args.to c.args.start
    c.in_ok-hook.hook c.place_hook.new.region made _ c.insert_entry.ensures.capacity c.insert_entry.new.entries.items c.insert_entry.ensures.items

pub returns-in_err-hook : goal.returns-in_err-hook
returns-in_err-hook c =
    let f = c.self.inside in
    let a = c.args in
    let made =
    subst (λ (xs : List Hook). IsHookPlaced (record { range = f.range; over = a.over }) xs f.region a.ip a.code.now a.to a.start c.place_hook.result c.place_hook.new.region)
    c.deref.ensures.value c.place_hook.ensures in
    let p = err_from_is_err_and c.from_residual.result c.from_residual.ensures.1 in
    held-installed c.laws_below.ensures f.range f.region f.live.items _ c.self.invariant a.over a.ip a.code.now a.to a.start c.place_hook.result c.place_hook.new.region made
    a.self.now c.self.view_is c.from_residual.result (rw (p.1, p.2, c.in_err-hook.was) refl)
    f.live.items (ap (λ (r : Result Hook InstallError). hooks_after r f.live.items) (sym c.in_err-hook.was))

pub returns : goal.returns
returns c =
    let f = c.self.inside in
    let a = c.args in
    let made =
    subst (λ (xs : List Hook). IsHookPlaced (record { range = f.range; over = a.over }) xs f.region a.ip a.code.now a.to a.start c.place_hook.result c.place_hook.new.region)
    c.deref.ensures.value c.place_hook.ensures in
    held-installed c.laws_below.ensures f.range f.region f.live.items _ c.self.invariant a.over a.ip a.code.now a.to a.start c.place_hook.result c.place_hook.new.region made
    a.self.now c.self.view_is (Ok c.in_ok-hook.hook.place) (ap install_place (sym c.in_ok-hook.was))
    c.insert_entry.new.entries.items
    (c.insert_entry.ensures.items ∙ ap (λ (r : Result Hook InstallError). hooks_after r f.live.items) (sym c.in_ok-hook.was))
