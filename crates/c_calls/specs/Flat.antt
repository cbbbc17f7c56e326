-- An instruction and its operands as the flat structs of the C interface.
use Rattle.std.specs.Prelude.{ℕ, Option, Some, None}
use Rattle.x86_values.specs.declared.Register.{Register}
use Rattle.x86_values.specs.declared.Operand.{Operand}
use Rattle.x86_values.specs.declared.Operand.TheVariants.{Absent, Reg, Mem as Memory, Imm, Near, Far}
use Rattle.x86_values.specs.declared.Instr.{Instr}
use Rattle.x86_values.specs.declared.Decoded.{Decoded}
use Rattle.x86_values.specs.Registers.{number}
use Rattle.plain_spelling.specs.Forms.{operand_at}
use Rattle.c_calls.specs.declared.flat.FlatOperand.{FlatOperand}
use Rattle.c_calls.specs.declared.flat.FlatInstr.{FlatInstr}
use Rattle.c_calls.specs.Numbers.{class_number, disp_number, lock_number, rep_number, prefix_number, asize_number}

-- the class of a register that may be absent: 0 without one
abbrev pub base_class : Option Register → ℕ
base_class None = 0
base_class (Some r) = class_number r

-- its number: 0 without one
abbrev pub base_number : Option Register → ℕ
base_number None = 0
base_number (Some r) = number r

-- an operand of a kind, with 0 in all other fields
abbrev pub bare_operand : ℕ → FlatOperand
bare_operand kind = record {
  value = 0;
  offset = 0;
  selector = 0;
  kind = kind;
  reg_class = 0;
  reg_number = 0;
  index_class = 0;
  index_number = 0;
  scale = 0;
  disp_bits = 0;
}

-- an operand: its kind, what it holds, and 0 in the fields that its kind does not use
unfoldable pub flat_operand : Operand → FlatOperand
flat_operand Absent = bare_operand 0
flat_operand (Reg r) = record (bare_operand 1) { reg_class = class_number r; reg_number = number r }
flat_operand (Memory m) = record {
  value = m.disp;
  offset = 0;
  selector = 0;
  kind = 2;
  reg_class = base_class m.base;
  reg_number = base_number m.base;
  index_class = base_class m.index;
  index_number = base_number m.index;
  scale = m.scale;
  disp_bits = disp_number m.disp_size;
}
flat_operand (Imm x) = record (bare_operand 3) { value = x }
flat_operand (Near x) = record (bare_operand 4) { value = x }
flat_operand (Far s x) = record (bare_operand 5) { offset = x; selector = s }

-- an instruction of so many bytes
unfoldable pub flat_instr : Instr → ℕ → FlatInstr
flat_instr i len = record {
  op0 = flat_operand (operand_at i 0);
  op1 = flat_operand (operand_at i 1);
  op2 = flat_operand (operand_at i 2);
  op3 = flat_operand (operand_at i 3);
  code = i.code.0;
  len = len;
  lock = lock_number i.lock;
  rep = rep_number i.rep;
  segment = prefix_number i.seg;
  asize = asize_number i.asize;
}

-- the struct of an instruction that was read, with its length
abbrev pub flat_decoded : Decoded → FlatInstr
flat_decoded d = flat_instr d.instr d.len
