-- Each call goes on behind the first byte.
use Rattle.std.proofs.Common.{length}
use Rattle.row_entries.proofs.text.+separators.Given as goal

abbrev pub decreases-separators : goal.decreases-separators
decreases-separators l = length l.text.now
