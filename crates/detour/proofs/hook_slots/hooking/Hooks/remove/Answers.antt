use Rattle.std.proofs.Common.{◌≡◌, ℕ, List, Option, ap, sym, subst, ◌∙◌}
use Rattle.std.specs.Prelude.{OnErr}
use Rattle.detour.specs.declared.hook_slots.making.Hook.{Hook}
use Rattle.detour.specs.HookSlots.Layers.{covered_by}
use Rattle.detour.proofs.HookSlots.Kept.{kept-ascend, remove-stands, held-without, absent-answer, absent-state, covered-answer, covered-state, removed-answer, removed-state}
use Rattle.detour.proofs.hook_slots.hooking.Hooks.remove.Goals as goal

-- what covers a hook, by the list that was looked at
cover : (place : ℕ) {xs ys : List Hook} {by : Option ℕ} → xs ≡ ys → covered_by place xs ≡ by → covered_by place ys ≡ by
cover place same e = ap (λ (zs : List Hook). covered_by place zs) (sym same) ∙ e

pub returns-in-Some-clause-answer : goal.returns-in-Some-clause-answer
returns-in-Some-clause-answer c =
    let f = c.self.inside in
    covered-answer c.laws_below.ensures f.range.bits f.range.slot f.region f.live.items _ c.self.invariant.kept c.args.place c.args.self.now c.self.view_is
    c.in-Some.by (cover c.args.place c.deref.ensures.value (sym c.covered_by.ensures ∙ c.in-Some.is))

pub returns-in-Some-clause-state : goal.returns-in-Some-clause-state
returns-in-Some-clause-state c =
    let f = c.self.inside in
    sym c.self.view_is
    ∙ covered-state c.laws_below.ensures f.range.bits f.range.slot f.region f.live.items _ c.self.invariant.kept c.args.place c.args.self.now c.self.view_is
    c.in-Some.by (cover c.args.place c.deref.ensures.value (sym c.covered_by.ensures ∙ c.in-Some.is))

pub returns-in-Err-clause-answer : goal.returns-in-Err-clause-answer
returns-in-Err-clause-answer c =
    let f = c.self.inside in
    absent-answer c.laws_below.ensures f.range.bits f.range.slot f.region f.live.items _ c.self.invariant.kept c.args.place c.args.self.now c.self.view_is
    c.in-Err.field-0 (sym c.release.ensures.answer ∙ c.in-Err.is)

pub returns-in-Err-clause-state : goal.returns-in-Err-clause-state
returns-in-Err-clause-state c =
    let f = c.self.inside in
    let same = subst (λ r. OnErr r (c.release.new.self ≡ f.region)) c.in-Err.is c.release.ensures.refused in
    absent-state c.laws_below.ensures f.range.bits f.range.slot f.region f.live.items _ c.self.invariant.kept c.args.place c.args.self.now c.self.view_is
    c.in-Err.field-0 (sym c.release.ensures.answer ∙ c.in-Err.is) c.release.new.self same

pub remove_entry-requires-clause-ascend : goal.remove_entry-requires-clause-ascend
remove_entry-requires-clause-ascend c =
    let f = c.self.inside in
    kept-ascend c.laws_below.ensures f.range.bits f.range.slot f.region f.live.items _ c.self.invariant.kept

pub remove_entry-requires-clause-live : goal.remove_entry-requires-clause-live
remove_entry-requires-clause-live c =
    let f = c.self.inside in
    remove-stands c.laws_below.ensures f.range.bits f.range.slot f.region f.live.items _ c.self.invariant.kept c.args.place (sym c.release.ensures.answer ∙ c.in-Ok.is)

pub returns-in-Ok-clause-answer : goal.returns-in-Ok-clause-answer
returns-in-Ok-clause-answer c =
    let f = c.self.inside in
    removed-answer c.laws_below.ensures f.range.bits f.range.slot f.region f.live.items _ c.self.invariant.kept c.args.place c.args.self.now c.self.view_is
    c.remove_entry.result c.remove_entry.ensures.entry (cover c.args.place c.deref.ensures.value (sym c.covered_by.ensures ∙ c.in_default.is))

pub returns-in-Ok-clause-state : goal.returns-in-Ok-clause-state
returns-in-Ok-clause-state c =
    let f = c.self.inside in
    removed-state c.laws_below.ensures f.range.bits f.range.slot f.region f.live.items _ c.self.invariant.kept c.args.place c.args.self.now c.self.view_is
    c.remove_entry.result c.remove_entry.ensures.entry (cover c.args.place c.deref.ensures.value (sym c.covered_by.ensures ∙ c.in_default.is))
    c.release.new.self c.release.ensures.state c.remove_entry.new.entries.items c.remove_entry.ensures.items

pub invariant_of-self : goal.invariant_of-self
invariant_of-self c =
    let f = c.self.inside in
    held-without c.laws_below.ensures f.range f.region f.live.items _ c.self.invariant c.args.place
    c.remove_entry.result c.remove_entry.ensures.entry (cover c.args.place c.deref.ensures.value (sym c.covered_by.ensures ∙ c.in_default.is)) c.release.new.self c.release.ensures.state
    c.remove_entry.new.entries.items c.remove_entry.ensures.items _ c.remove_entry.ensures.capacity
