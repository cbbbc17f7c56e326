use Rattle.move_goals.proofs.BranchForms.Fit.{spelled-fit}
use Rattle.move_goals.proofs.branch_forms.laws.choices_are_fit.Goals as goal

pub returns : goal.returns
returns c bits ip bytes i four spelled = spelled-fit c.laws_below.ensures bits ip bytes i spelled
