use Rattle.std.proofs.Common.{◌∙◌}
use Rattle.att_text.proofs.Bounds.{att_name-le}
use Rattle.text_pieces.proofs.Laying.{grows}
use Rattle.text_pieces.proofs.att.put_name.Goals as goal

pub returns-clause-size : goal.returns-clause-size
returns-clause-size c = grows _ _ _ _ (c.close.ensures.text ∙ c.append_name.ensures) (att_name-le c.args.bits c.args.row.now c.args.name.now c.args.instr.now c.requires.name)
