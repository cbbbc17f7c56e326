-- Each call goes on behind a first row.
use Rattle.std.proofs.Common.{length}
use Rattle.row_entries.proofs.table.+first_difference.Given as goal

abbrev pub decreases-first_difference : goal.decreases-first_difference
decreases-first_difference l = length l.rows.now
