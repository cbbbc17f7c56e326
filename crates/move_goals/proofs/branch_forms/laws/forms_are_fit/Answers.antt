use Rattle.move_goals.proofs.BranchForms.Fit as fit
use Rattle.move_goals.proofs.BranchForms.Lengths as lengths
use Rattle.move_goals.proofs.BranchForms.NearFirst as near
use Rattle.move_goals.proofs.BranchForms.Offsets as offsets
use Rattle.move_goals.proofs.branch_forms.laws.forms_are_fit.Goals as goal

pub returns : goal.returns
returns c = record {
  image_of-length = lengths.image_of-length c.laws_below.ensures;
  other-length = lengths.other-length c.laws_below.ensures;
  spelled-fit = fit.spelled-fit c.laws_below.ensures;
  branch-in-row = offsets.branch-in-row;
  no_branch-no_near = near.no_branch-no_near c.laws_below.ensures;
  branch-range = offsets.branch-range c.laws_below.ensures;
  branch-pair = offsets.branch-pair c.laws_below.ensures;
}
