use Rattle.c_calls.proofs.ShortWords.{kinds-short}
use Rattle.c_calls.proofs.laws.kind_words_are_short.Goals as goal

pub returns : goal.returns
returns c = kinds-short
