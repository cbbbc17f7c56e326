use Rattle.std.proofs.Common.{length}
use Rattle.text_options.proofs.gnu_prefixes.+append_words.Given as goal

abbrev pub decreases-append_words : goal.decreases-append_words
decreases-append_words l = length l.bytes.now
