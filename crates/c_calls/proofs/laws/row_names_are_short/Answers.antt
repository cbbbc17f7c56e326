use Rattle.c_calls.proofs.ShortTexts.{names-short}
use Rattle.c_calls.proofs.laws.row_names_are_short.Goals as goal

pub returns : goal.returns
returns c = names-short c.names_are_words.ensures
