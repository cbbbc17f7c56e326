-- Each call goes on behind the first byte.
use Rattle.std.proofs.Common.{length}
use Rattle.row_entries.proofs.text.+front_len.Given as goal

abbrev pub decreases-front_len : goal.decreases-front_len
decreases-front_len l = length l.text.now
