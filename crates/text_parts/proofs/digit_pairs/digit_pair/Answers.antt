use Rattle.std.proofs.Common.{arith}
use Rattle.std.proofs.lemmas.Option.{slice_get-get_or}
use Rattle.text_parts.specs.DigitPairs.{pairs}
use Rattle.text_parts.proofs.DigitPairs.{pair-at}
use Rattle.text_parts.proofs.digit_pairs.digit_pair.Goals as goal

pub returns : goal.returns
unfolding pairs
returns c = pair-at c.args.byte _ (slice_get-get_or pairs c.args.byte _ (omega arith))
