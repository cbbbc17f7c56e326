use Rattle.std.proofs.Common.{◌≡◌, ℕ, [], ◌∷◌, sym, ap, ◌∙◌, List}
use Rattle.branch_sizes.specs.declared.plan.Choice.{Choice}
use Rattle.branch_sizes.specs.declared.plan.Form.TheVariants.{Itself}
use Rattle.branch_sizes.specs.declared.plan.Reach.TheVariants.{Always}
use Rattle.move_goals.specs.BranchForms.Images.{form_length}
use Rattle.move_goals.proofs.BranchForms.Lengths.{other-length}
use Rattle.move_goals.proofs.BranchForms.Single.{untargeted-branch, own-choices}
use Rattle.move_goals.proofs.branch_forms.choices.choices_without_target.Goals as goal

pub returns : goal.returns
returns c =
    let i = c.args.instr.now in
    let none = untargeted-branch i c.requires.untargeted in
    let long : c.args.len ≡ form_length c.args.bits i Itself =
    c.requires.len ∙ sym (other-length c.laws_below.ensures c.args.bits i Itself none) in
    let one : ℕ → List Choice = λ n. record { form = Itself; len = n; reach = Always } ∷ [] in
    c.alone.ensures ∙ ap one long ∙ sym (own-choices c.args.bits i none)
