use Rattle.c_calls.proofs.ShortTexts.{features-short}
use Rattle.c_calls.proofs.laws.feature_names_are_short.Goals as goal

pub returns : goal.returns
returns c = features-short
