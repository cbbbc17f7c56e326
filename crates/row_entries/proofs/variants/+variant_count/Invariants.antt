-- Each call goes on behind the first row.
use Rattle.std.proofs.Common.{length}
use Rattle.row_entries.proofs.variants.+variant_count.Given as goal

abbrev pub decreases-variant_count : goal.decreases-variant_count
decreases-variant_count l = length l.variants.now
