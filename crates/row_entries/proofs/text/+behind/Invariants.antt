-- Each call goes on behind the first byte.
use Rattle.std.proofs.Common.{length}
use Rattle.row_entries.proofs.text.+behind.Given as goal

abbrev pub decreases-behind : goal.decreases-behind
decreases-behind l = length l.text.now
