use Rattle.move_goals.proofs.BranchForms.Codes.{code_facts}
use Rattle.move_goals.proofs.branch_forms.laws.codes_have_their_rows.Goals as goal

pub returns : goal.returns
returns c = code_facts
