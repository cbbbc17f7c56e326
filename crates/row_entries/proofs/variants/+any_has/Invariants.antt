-- Each call goes on behind the first kind.
use Rattle.std.proofs.Common.{length}
use Rattle.row_entries.proofs.variants.+any_has.Given as goal

abbrev pub decreases-any_has : goal.decreases-any_has
decreases-any_has l = length l.kinds.now
