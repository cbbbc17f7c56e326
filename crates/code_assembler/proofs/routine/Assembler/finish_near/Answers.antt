use Rattle.std.proofs.Common.{◌≡◌, List, Option, Some, None, ℕ, inr, sym, ap, ◌∙◌, subst}
use Rattle.branch_sizes.specs.declared.plan.Form.{Form}
use Rattle.move_goals.specs.declared.items.Placed.{Placed}
use Rattle.code_assembler.specs.Routine.{RoutineState}
use Rattle.code_assembler.specs.Finished.{AssembledState}
use Rattle.code_assembler.specs.Near.{first_far, address_aimed}
use Rattle.code_assembler.proofs.NoSlots.{near_is, far_is}
use Rattle.code_assembler.proofs.routine.Assembler.finish_near.Goals as goal

pub returns-in-None : goal.returns-in-None
returns-in-None c =
    let made = c.in-Ok.made in
    let forms : c.forms.result.now ≡ made.moved.forms = c.forms.ensures ∙ ap (λ (a : AssembledState). a.moved.forms) c.made.view_is in
    let none : first_far made.moved.forms ≡ None =
    subst (λ (fs : List Form). first_far fs ≡ None) forms (sym c.first_far.ensures ∙ c.in-None.is) in
    near_is c.laws_below.ensures c.args.self.now c.args.base made c.in-Ok.ensures none

pub returns-in-Some : goal.returns-in-Some
returns-in-Some c =
    let made = c.in-Ok.made in
    let s = c.args.self.now in
    let forms : c.forms.result.now ≡ made.moved.forms = c.forms.ensures ∙ ap (λ (a : AssembledState). a.moved.forms) c.made.view_is in
    let first : first_far made.moved.forms ≡ Some c.in-Some.at =
    subst (λ (fs : List Form). first_far fs ≡ Some c.in-Some.at) forms (sym c.first_far.ensures ∙ c.in-Some.is) in
    let aims : c.deref.result.now ≡ s.aims = c.deref.ensures.value ∙ ap (λ (t : RoutineState). t.aims) c.self.view_is in
    let items : c.deref-in-Some.result.now ≡ s.items = c.deref-in-Some.ensures.value ∙ ap (λ (t : RoutineState). t.items) c.self.view_is in
    let target : c.address_aimed.result ≡ address_aimed s.aims s.items made c.in-Some.at =
    c.address_aimed.ensures
    ∙ (ap (λ (xs : List (Option ℕ)). address_aimed xs c.deref-in-Some.result.now made c.in-Some.at) aims
    ∙ ap (λ (xs : List Placed). address_aimed s.aims xs made c.in-Some.at) items) in
    inr (far_is c.laws_below.ensures s c.args.base made c.in-Ok.ensures c.in-Some.at c.address_aimed.result first target)
