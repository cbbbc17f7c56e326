use Rattle.std.proofs.Common.{length}
use Rattle.assembly_text.proofs.readings.+read_first.Given as goal

abbrev pub decreases-read_first : goal.decreases-read_first
decreases-read_first l = length l.widths.now
