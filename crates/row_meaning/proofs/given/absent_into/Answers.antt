use Rattle.std.proofs.Common.{sym, ◌∙◌}
use Rattle.row_meaning.proofs.ImmediateLaws.{absent_operand}
use Rattle.row_meaning.proofs.given.absent_into.Goals as goal

pub returns-clause-operand : goal.returns-clause-operand
returns-clause-operand c =
    sym (absent_operand c.args.given.now.bits c.args.row.now c.args.state.now _ c.args.given.now.behind.now.imm.now c.args.n
    (sym c.requires.kind ∙ c.requires.absent))
