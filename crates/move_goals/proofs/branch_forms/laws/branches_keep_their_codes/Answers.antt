use Rattle.move_goals.proofs.BranchForms.Own.{branch-code}
use Rattle.move_goals.proofs.branch_forms.laws.branches_keep_their_codes.Goals as goal

pub returns : goal.returns
returns c = branch-code
