-- Each call goes on behind the first.
use Rattle.std.proofs.Common.{length}
use Rattle.row_entries.proofs.rows.+add_rows_at.Given as goal

abbrev pub decreases-add_rows_at : goal.decreases-add_rows_at
decreases-add_rows_at l = length l.variants.now
