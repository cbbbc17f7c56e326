use Rattle.std.proofs.Common.{◌∙◌}
use Rattle.text_parts.proofs.Bounds.{number-le}
use Rattle.text_pieces.proofs.Some.{number-some}
use Rattle.text_pieces.proofs.Laying.{grows, longer}
use Rattle.text_pieces.proofs.numbers.put_number.Goals as goal

pub returns-clause-size : goal.returns-clause-size
returns-clause-size c = grows _ _ _ _ (c.close_some.ensures.text ∙ c.append_number.ensures) (number-le c.args.style c.args.shown)

pub close_some-requires-clause-some : goal.close_some-requires-clause-some
close_some-requires-clause-some c = longer _ _ _ _ c.len-start.ensures.value c.append_number.ensures (number-some c.args.style c.args.shown)
