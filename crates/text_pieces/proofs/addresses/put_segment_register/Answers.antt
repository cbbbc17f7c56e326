use Rattle.std.proofs.Common.{◌∙◌}
use Rattle.text_pieces.proofs.Short.{segment_register-le}
use Rattle.text_pieces.proofs.Laying.{grows}
use Rattle.text_pieces.proofs.addresses.put_segment_register.Goals as goal

pub returns-clause-size : goal.returns-clause-size
returns-clause-size c = grows _ _ _ _ (c.close.ensures.text ∙ c.append_register.ensures) (segment_register-le c.args.style c.args.s)
