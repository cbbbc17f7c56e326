use Rattle.std.proofs.Common.{length-append, arith}
use Rattle.opcode_rows.proofs.Formed.{code_in_table}
use Rattle.operand_info.proofs.Uses.{uses_at-le}
use Rattle.operand_info.proofs.registers.used_registers.Goals as goal

pub push_uses_at-requires-clause-code : goal.push_uses_at-requires-clause-code
push_uses_at-requires-clause-code c = code_in_table c.args.instr.now c.requires

pub push_uses_at-requires-2-clause-code : goal.push_uses_at-requires-2-clause-code
push_uses_at-requires-2-clause-code c = code_in_table c.args.instr.now c.requires

pub push_uses_at-requires-3-clause-code : goal.push_uses_at-requires-3-clause-code
push_uses_at-requires-3-clause-code c = code_in_table c.args.instr.now c.requires

pub push_uses_at-requires-4-clause-code : goal.push_uses_at-requires-4-clause-code
push_uses_at-requires-4-clause-code c = code_in_table c.args.instr.now c.requires

pub push_uses_at-requires-clause-room : goal.push_uses_at-requires-clause-room
push_uses_at-requires-clause-room c = grind (arith, uses_at-le, length-append)

pub push_uses_at-requires-2-clause-room : goal.push_uses_at-requires-2-clause-room
push_uses_at-requires-2-clause-room c = grind (arith, uses_at-le, length-append)

pub push_uses_at-requires-3-clause-room : goal.push_uses_at-requires-3-clause-room
push_uses_at-requires-3-clause-room c = grind (arith, uses_at-le, length-append)

pub push_uses_at-requires-4-clause-room : goal.push_uses_at-requires-4-clause-room
push_uses_at-requires-4-clause-room c = grind (arith, uses_at-le, length-append)
