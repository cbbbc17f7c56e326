use Rattle.std.proofs.Common.{length}
use Rattle.moving_run.proofs.command_words.words.+value_named.Given as goal

abbrev pub decreases-value_named : goal.decreases-value_named
decreases-value_named g l = length l.names.now
