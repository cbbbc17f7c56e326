use Rattle.std.proofs.Common.{arith}
use Rattle.instruction_info.proofs.Pushed.{four_named, length_four}
use Rattle.instruction_info.proofs.registers.push_named.Goals as goal

pub returns-clause-items : goal.returns-clause-items
returns-clause-items c =
    four_named c.args.replaced c.args.instr.now c.args.uses.now.items _ _ _ _ c.push_operand_at.ensures.items c.push_operand_at-2.ensures.items c.push_operand_at-3.ensures.items c.push_operand_at-4.ensures.items

pub returns-clause-len : goal.returns-clause-len
returns-clause-len c =
    omega (arith, length_four c.args.instr.now, c.push_operand_at.ensures.len, c.push_operand_at-2.ensures.len, c.push_operand_at-3.ensures.len, c.push_operand_at-4.ensures.len)
