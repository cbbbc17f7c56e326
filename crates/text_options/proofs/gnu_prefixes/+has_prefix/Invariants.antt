use Rattle.std.proofs.Common.{length}
use Rattle.text_options.proofs.gnu_prefixes.+has_prefix.Given as goal

abbrev pub decreases-has_prefix : goal.decreases-has_prefix
decreases-has_prefix l = length l.bytes.now
