use Rattle.instruction_info.proofs.Pushed.{first_used, next_used}
use Rattle.instruction_info.proofs.memory.push_named.Goals as goal

pub returns-then-push_operand_at-clause-items : goal.returns-then-push_operand_at-clause-items
returns-then-push_operand_at-clause-items c =
    first_used _ _ _ _ _ c.push_operand_at.ensures.items c.push_operand_at.ensures.used c.if-push_operand_at.true

pub returns-then-push_operand_at-2-clause-items : goal.returns-then-push_operand_at-2-clause-items
returns-then-push_operand_at-2-clause-items c =
    next_used _ _ _ _ _ _ c.push_operand_at.ensures.items c.push_operand_at.ensures.used c.if-push_operand_at.false
    (first_used _ _ _ _ _ c.push_operand_at-2.ensures.items c.push_operand_at-2.ensures.used c.if-push_operand_at-2.true)

pub returns-then-push_operand_at-3-clause-items : goal.returns-then-push_operand_at-3-clause-items
returns-then-push_operand_at-3-clause-items c =
    next_used _ _ _ _ _ _ c.push_operand_at.ensures.items c.push_operand_at.ensures.used c.if-push_operand_at.false
    (next_used _ _ _ _ _ _ c.push_operand_at-2.ensures.items c.push_operand_at-2.ensures.used c.if-push_operand_at-2.false
    (first_used _ _ _ _ _ c.push_operand_at-3.ensures.items c.push_operand_at-3.ensures.used c.if-push_operand_at-3.true))

pub returns-clause-items : goal.returns-clause-items
returns-clause-items c =
    next_used _ _ _ _ _ _ c.push_operand_at.ensures.items c.push_operand_at.ensures.used c.if-push_operand_at.false
    (next_used _ _ _ _ _ _ c.push_operand_at-2.ensures.items c.push_operand_at-2.ensures.used c.if-push_operand_at-2.false
    (next_used _ _ _ _ _ _ c.push_operand_at-3.ensures.items c.push_operand_at-3.ensures.used c.if-push_operand_at-3.false c.push_operand_at-4.ensures.items))
