use Rattle.std.proofs.Common.{length}
use Rattle.text_options.proofs.pieces_text.+append_comments.Given as goal

abbrev pub decreases-append_comments : goal.decreases-append_comments
decreases-append_comments g l = length l.pieces.now
