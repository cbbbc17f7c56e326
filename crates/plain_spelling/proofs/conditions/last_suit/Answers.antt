use Rattle.std.proofs.Common.{sym, ◌∙◌}
use Rattle.plain_spelling.proofs.Suiting.{pair-suits}
use Rattle.plain_spelling.proofs.conditions.last_suit.Goals as goal

pub returns-then-pair : goal.returns-then-pair
returns-then-pair c =
    sym (pair-suits c.args.bits c.args.parts.now.ip c.args.row.now c.args.instr.now (sym c.requires.pair ∙ c.if-pair.true))
