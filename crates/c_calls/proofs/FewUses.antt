-- An instruction names few registers.
use Rattle.std.proofs.Common.{ℕ, ◌≤◌, ◌++◌, length, Option, Some, None, arith, length-append}
use Rattle.x86_values.specs.declared.Register.{Register}
use Rattle.x86_values.specs.declared.Operand.{Operand}
use Rattle.x86_values.specs.declared.Operand.TheVariants.{Absent, Reg, Mem as Memory, Imm, Near, Far}
use Rattle.x86_values.specs.declared.Instr.{Instr}
use Rattle.plain_spelling.specs.Forms.{operand_at}
use Rattle.operand_info.specs.declared.columns.Access.{Access}
use Rattle.operand_info.specs.declared.columns.Access.TheVariants.{None as NoAccess, Read, Write, ReadWrite}
use Rattle.operand_info.specs.ByCode.{access_of}
use Rattle.operand_info.specs.Operands.{operand_use, address_use, uses_of, uses_at, uses}

operand_few : (r : Register) (access : Access) → length (operand_use r access) ≤ 2
unfolding operand_use
operand_few r NoAccess = omega arith
operand_few r Read = omega arith
operand_few r Write = omega arith
operand_few r ReadWrite = omega arith

address_few : (r : Option Register) → length (address_use r) ≤ 1
address_few None = omega arith
address_few (Some r) = omega arith

few_of : (o : Operand) (access : Access) → length (uses_of o access) ≤ 2
unfolding uses_of
few_of Absent access = omega arith
few_of (Reg r) access = operand_few r access
few_of (Memory m) access = omega (arith, length-append (address_use m.base) (address_use m.index), address_few m.base, address_few m.index)
few_of (Imm x) access = omega arith
few_of (Near x) access = omega arith
few_of (Far s x) access = omega arith

few_at : (i : Instr) (n : ℕ) → length (uses_at i n) ≤ 2
unfolding uses_at
few_at i n = few_of (operand_at i n) (access_of i.code.0 n)

-- the operands of an instruction name at most 8 registers
pub few_uses : (i : Instr) → length (uses i) ≤ 8
unfolding uses
few_uses i =
    let a = uses_at i 0 in
    let b = uses_at i 1 in
    let c = uses_at i 2 in
    let d = uses_at i 3 in
    omega (arith, length-append a (b ++ (c ++ d)), length-append b (c ++ d), length-append c d, few_at i 0, few_at i 1, few_at i 2, few_at i 3)
