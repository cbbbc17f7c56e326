use Rattle.std.proofs.Common.{◌∙◌}
use Rattle.assembly_text.proofs.Sized.{joined_pieces}
use Rattle.assembly_text.proofs.sizing.put_pieces.Goals as goal

pub returns : goal.returns
returns c = (
  joined_pieces c.args.bits c.args.s.now _ _ _ _ _ _ (c.truncate.ensures.items ∙ c.requires.1) c.in_ok-first.ensures.0
      c.in_ok-second.ensures.0 c.in_ok-third.ensures.0 c.in_ok-put_piece.ensures.0,
  (c.in_ok-first.ensures.1, c.in_ok-second.ensures.1, c.in_ok-third.ensures.1),
)
