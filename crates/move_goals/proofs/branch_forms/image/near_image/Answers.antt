use Rattle.std.proofs.Common.{◌∷◌, [], List, None, sym, ap, ◌∙◌}
use Rattle.x86_values.specs.declared.Instr.{Instr}
use Rattle.move_goals.specs.BranchForms.Images.{branch_to}
use Rattle.move_goals.proofs.BranchForms.Single.{own-near, branch-near}
use Rattle.move_goals.proofs.branch_forms.image.near_image.Goals as goal

pub returns-in-None : goal.returns-in-None
returns-in-None c = λ bits place slot.
    let only : Instr → List Instr = λ i. i ∷ [] in
    own-near bits c.args.instr.now place c.args.goal slot (sym c.branch_of.ensures ∙ c.in-None.is)
    ∙ ap only (sym c.with_target.ensures)

pub returns-in-Some : goal.returns-in-Some
returns-in-Some c = λ bits place slot.
    let only : Instr → List Instr = λ i. i ∷ [] in
    branch-near bits c.args.instr.now c.in-Some.branch place c.args.goal slot (sym c.branch_of.ensures ∙ c.in-Some.is)
    ∙ ap only (ap (λ code. branch_to code None c.args.goal) (sym c.near_code.ensures) ∙ sym c.branch_to.ensures)
