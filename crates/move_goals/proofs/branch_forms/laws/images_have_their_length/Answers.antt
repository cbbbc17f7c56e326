use Rattle.move_goals.proofs.BranchForms.Lengths.{image_of-length}
use Rattle.move_goals.proofs.branch_forms.laws.images_have_their_length.Goals as goal

pub returns : goal.returns
returns c = image_of-length c.laws_below.ensures
