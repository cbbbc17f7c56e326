-- Each call goes on behind the first.
use Rattle.std.proofs.Common.{length}
use Rattle.row_entries.proofs.rows.+add_rows_at_each.Given as goal

abbrev pub decreases-add_rows_at_each : goal.decreases-add_rows_at_each
decreases-add_rows_at_each l = length l.lengths.now
