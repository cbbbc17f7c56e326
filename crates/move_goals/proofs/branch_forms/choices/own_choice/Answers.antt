use Rattle.std.proofs.Common.{◌≡◌, ℕ, [], ◌∷◌, sym, ap, ◌∙◌, List}
use Rattle.branch_sizes.specs.declared.plan.Choice.{Choice}
use Rattle.branch_sizes.specs.declared.plan.Form.TheVariants.{Itself}
use Rattle.branch_sizes.specs.declared.plan.Reach.TheVariants.{Always}
use Rattle.move_goals.specs.BranchForms.Images.{form_length}
use Rattle.move_goals.proofs.BranchForms.Lengths.{other-length}
use Rattle.move_goals.proofs.branch_forms.choices.own_choice.Goals as goal

pub returns : goal.returns
returns c =
    let long : c.plain_length.result ≡ form_length c.args.bits c.args.instr.now Itself =
    c.plain_length.ensures.value ∙ sym (other-length c.laws_below.ensures c.args.bits c.args.instr.now Itself c.requires) in
    let one : ℕ → List Choice = λ n. record { form = Itself; len = n; reach = Always } ∷ [] in
    c.alone.ensures ∙ ap one long
