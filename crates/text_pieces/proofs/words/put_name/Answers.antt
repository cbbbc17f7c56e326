use Rattle.std.proofs.Common.{arith, ap, ◌∙◌, ◌++◌, length}
use Rattle.text_parts.proofs.LayoutBounds.{name_text-le}
use Rattle.text_pieces.proofs.Laying.{grows}
use Rattle.text_pieces.proofs.words.put_name.Goals as goal

pub returns-clause-size : goal.returns-clause-size
returns-clause-size c =
    grows _ _ _ _ (c.close.ensures.text ∙ c.append.ensures)
    (omega (arith, ap length c.name_text.ensures, name_text-le c.args.bits c.args.name.now c.args.instr.now c.requires.short))
