-- Trims from the end of a text.
use Rattle.std.proofs.lemmas.List.Sums.{suffix_len-take_yes, suffix_len-take_no, suffix_len-le-length}

pub ruleset trim_steps = (suffix_len-take_yes, suffix_len-take_no, suffix_len-le-length)
