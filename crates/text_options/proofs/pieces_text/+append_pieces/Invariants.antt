use Rattle.std.proofs.Common.{length}
use Rattle.text_options.proofs.pieces_text.+append_pieces.Given as goal

abbrev pub decreases-append_pieces : goal.decreases-append_pieces
decreases-append_pieces g l = length l.pieces.now
