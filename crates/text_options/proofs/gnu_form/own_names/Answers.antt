use Rattle.std.proofs.Common.{refl}
use Rattle.text_options.specs.GnuForms.{own_names}
use Rattle.text_options.proofs.gnu_form.own_names.Goals as goal

pub returns : goal.returns
unfolding own_names
returns c = refl
