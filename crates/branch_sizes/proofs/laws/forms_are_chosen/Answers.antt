use Rattle.branch_sizes.proofs.Forms as forms
use Rattle.branch_sizes.proofs.laws.forms_are_chosen.Goals as goal

pub returns : goal.returns
returns c = record {
  length-forms_of = forms.length-forms_of;
  get_or-forms_of = forms.get_or-forms_of;
}
