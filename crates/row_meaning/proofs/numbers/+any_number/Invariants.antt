use Rattle.std.proofs.Common.{length}
use Rattle.row_meaning.proofs.numbers.+any_number.Given as goal

abbrev pub decreases-any_number : goal.decreases-any_number
decreases-any_number l = length l.bytes.now
