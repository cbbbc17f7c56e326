use Rattle.std.proofs.Common.{◌∙◌}
use Rattle.text_parts.proofs.Bounds.{decimal-le}
use Rattle.text_pieces.proofs.Laying.{grows}
use Rattle.text_pieces.proofs.addresses.put_scale_number.Goals as goal

pub returns-clause-size : goal.returns-clause-size
returns-clause-size c = grows _ _ _ _ (c.close.ensures.text ∙ c.append_decimal.ensures) (decimal-le c.args.m.now.scale)
