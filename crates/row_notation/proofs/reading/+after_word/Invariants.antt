-- Each call goes on behind the first byte of the word.
use Rattle.std.proofs.Common.{length}
use Rattle.row_notation.proofs.reading.+after_word.Given as goal

abbrev pub decreases-after_word : goal.decreases-after_word
decreases-after_word l = length l.word.now
