use Rattle.std.proofs.Common.{sym, ap, ◌∙◌, ◌∷◌, [], List}
use Rattle.x86_values.specs.declared.Instr.{Instr}
use Rattle.move_goals.proofs.BranchForms.Single.{own-short, branch-short}
use Rattle.move_goals.proofs.branch_forms.image.short_image.Goals as goal

pub returns-in-None : goal.returns-in-None
returns-in-None c = λ bits place slot.
    let only : Instr → List Instr = λ i. i ∷ [] in
    own-short bits c.args.instr.now place c.args.goal slot (sym c.branch_of.ensures ∙ c.in-None.is)
    ∙ ap only (sym c.with_target.ensures)

pub returns-in-Some : goal.returns-in-Some
returns-in-Some c = λ bits place slot.
    let only : Instr → List Instr = λ i. i ∷ [] in
    branch-short bits c.args.instr.now c.in-Some.branch place c.args.goal slot (sym c.branch_of.ensures ∙ c.in-Some.is)
    ∙ ap only (sym c.short_branch.ensures)
