use Rattle.intel_reader.proofs.Apart.{are_one}
use Rattle.intel_reader.proofs.laws.texts_tell_apart.Goals as goal

pub returns : goal.returns
returns c = λ bits ip text a b size ka kb code asize sa sb.
    are_one c.texts_show_words.ensures bits ip text a b size ka kb code asize sa sb
