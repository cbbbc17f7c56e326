-- Each call goes on behind the first word.
use Rattle.std.proofs.Common.{length}
use Rattle.row_entries.proofs.words.+value_among.Given as goal

abbrev pub decreases-value_among : goal.decreases-value_among
decreases-value_among g l = length l.words.now
