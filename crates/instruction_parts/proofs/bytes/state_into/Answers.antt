use Rattle.std.proofs.Common.{◌∙◌, sym}
use Rattle.instruction_parts.proofs.FewPrefixes.{nothing, rex_with_nothing}
use Rattle.instruction_parts.proofs.bytes.state_into.Goals as goal

pub returns-then-is_rex : goal.returns-then-is_rex
returns-then-is_rex c =
    c.state_of_rex-then-is_rex.ensures
    ∙ rex_with_nothing c.args.bits _ _ _ c.args.used c.args.vex c.args.map c.args.opcode c.in-Some.ensures.cases.0 c.if-rest-eq0.true (sym c.if-is_64.ensures) (sym c.if-is_rex.ensures)

pub returns-in-None : goal.returns-in-None
returns-in-None c =
    c.state_of_rex.ensures ∙ nothing c.args.bits _ c.args.used c.args.vex c.args.map c.args.opcode c.in-None.ensures.cases
