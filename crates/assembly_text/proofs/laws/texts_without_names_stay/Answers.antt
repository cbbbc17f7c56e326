use Rattle.assembly_text.proofs.Resolving.{unnamed}
use Rattle.assembly_text.proofs.laws.texts_without_names_stay.Goals as goal

pub returns : goal.returns
returns c text = unnamed 0 0 text
