-- Each call goes on behind the first bytes.
use Rattle.std.proofs.Common.{length}
use Rattle.row_entries.proofs.text.+is_small_of.Given as goal

abbrev pub decreases-is_small_of : goal.decreases-is_small_of
decreases-is_small_of l = length l.small.now
