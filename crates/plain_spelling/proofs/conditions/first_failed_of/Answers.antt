use Rattle.std.proofs.Common.{sym, ◌∙◌}
use Rattle.plain_spelling.proofs.Failures.{tail-none}
use Rattle.plain_spelling.proofs.conditions.first_failed_of.Goals as goal

pub returns-then-tail_suits : goal.returns-then-tail_suits
returns-then-tail_suits c =
    sym (tail-none c.args.bits c.args.parts.now.ip c.args.row.now c.args.instr.now (sym c.tail_suits.ensures ∙ c.if-tail_suits.true))
