use Rattle.std.proofs.Common.{sym, ◌∙◌}
use Rattle.row_meaning.proofs.ImmediateLaws.{absent_operand}
use Rattle.row_meaning.proofs.GivenLaws.{reads_all, all_of_pointer}
use Rattle.row_meaning.proofs.given.second_operand_into.Goals as goal

pub returns-in-Absent-clause-operand : goal.returns-in-Absent-clause-operand
returns-in-Absent-clause-operand c =
    sym (absent_operand c.args.given.now.bits c.args.row.now c.args.state.now _ c.args.given.now.behind.now.imm.now c.args.n
    (sym c.requires.kind ∙ c.in-Absent.is))

pub second_into-requires-clause-pointer : goal.second_into-requires-clause-pointer
second_into-requires-clause-pointer c = λ p.
    all_of_pointer c.args.given.now.size c.args.row.now c.args.given.now.behind.now.imm.now c.args.n c.args.kind c.requires.one c.requires.whole
    c.requires.number c.requires.kind p

pub returns-in_default : goal.returns-in_default
returns-in_default c =
    record {
      operand = c.second_into.ensures.operand c.args.row.now c.requires.size
          ∙ reads_all c.args.given.now.bits c.args.given.now.size c.args.row.now c.args.state.now _ c.args.given.now.behind.now.imm.now c.args.n c.args.kind
          c.requires.size.0 c.requires.one c.requires.whole c.requires.number c.requires.kind;
      memory = c.second_into.ensures.memory;
    }
