use Rattle.intel_words.proofs.WholeText.{shown_words}
use Rattle.intel_words.proofs.laws.texts_show_words.Goals as goal

pub returns : goal.returns
returns c = shown_words
