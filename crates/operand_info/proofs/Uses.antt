-- An operand names at most two registers.
use Rattle.std.proofs.Common.{ℕ, ◌≤◌, length, length-append, arith}
use Rattle.std.specs.Prelude.{Option, None, Some}
use Rattle.x86_values.specs.declared.Register.{Register}
use Rattle.x86_values.specs.declared.Operand.{Operand}
use Rattle.x86_values.specs.declared.Operand.TheVariants.{Absent, Reg, Mem as Memory, Imm, Near, Far}
use Rattle.x86_values.specs.declared.Instr.{Instr}
use Rattle.operand_info.specs.declared.columns.Access.{Access}
use Rattle.operand_info.specs.declared.columns.Access.TheVariants.{None as NoAccess, Read, Write, ReadWrite}
use Rattle.operand_info.specs.Operands.{operand_use, address_use, uses_of, uses_at}

operand_use-le : (r : Register) (access : Access) → length (operand_use r access) ≤ 1
unfolding operand_use
operand_use-le r NoAccess = omega arith
operand_use-le r Read = omega arith
operand_use-le r Write = omega arith
operand_use-le r ReadWrite = omega arith

address_use-le : (r : Option Register) → length (address_use r) ≤ 1
address_use-le None = omega arith
address_use-le (Some r) = omega arith

uses_of-le : (op : Operand) (access : Access) → length (uses_of op access) ≤ 2
unfolding uses_of
uses_of-le Absent access = omega arith
uses_of-le (Reg r) access = omega (arith, operand_use-le r access)
uses_of-le (Memory m) access =
    omega (arith, length-append (address_use m.base) (address_use m.index), address_use-le m.base, address_use-le m.index)
uses_of-le (Imm x) access = omega arith
uses_of-le (Near x) access = omega arith
uses_of-le (Far s o) access = omega arith

-- an operand uses at most two registers
pub uses_at-le : (i : Instr) (n : ℕ) → length (uses_at i n) ≤ 2
unfolding uses_at
uses_at-le i n = uses_of-le _ _
