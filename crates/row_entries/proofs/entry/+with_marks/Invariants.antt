-- Each call goes on behind the first word.
use Rattle.std.proofs.Common.{length}
use Rattle.row_entries.proofs.entry.+with_marks.Given as goal

abbrev pub decreases-with_marks : goal.decreases-with_marks
decreases-with_marks l = length l.text.now
