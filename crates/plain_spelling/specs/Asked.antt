-- The numbers that an instruction asks of the fields of its spelling (Intel SDM volume 2, 2.1.5, 2.2.1 and 2.3).
use Rattle.std.specs.Prelude.{◌≡◌, ◌+◌, ◌<◌, ◌≤◌, ℕ}
use Rattle.x86_values.specs.declared.Operand.{Operand}
use Rattle.x86_values.specs.declared.Instr.{Instr}
use Rattle.instruction_parts.specs.declared.row_types.Row.{Row}
use Rattle.instruction_parts.specs.declared.kinds.Method.{Method}
use Rattle.plain_spelling.specs.declared.registers.Asked.{Asked}
use Rattle.plain_spelling.specs.PlainFront.{number_in_reg, number_in_rm, number_in_index, number_in_vvvv, number_in_opcode, number_asked_of}
use Rattle.plain_spelling.specs.PlainTail.{displacement_read}

-- these are the numbers that the instruction asks of the fields of the row
pub record AreAskedOf (row : Row) (i : Instr) (numbers : Asked) : Type 0 where
  pub reg : numbers.reg ≡ number_asked_of number_in_reg row i
  pub rm : numbers.rm ≡ number_asked_of number_in_rm row i
  pub index : numbers.index ≡ number_asked_of number_in_index row i
  pub vvvv : numbers.vvvv ≡ number_asked_of number_in_vvvv row i
  pub opcode : numbers.opcode ≡ number_asked_of number_in_opcode row i
  pub displacement : numbers.displacement ≡ number_asked_of displacement_read row i

-- these are the numbers of some operands and of one in front of them, which is read so and adds at most 259 to each
pub record AreWith (method : Method) (op : Operand) (rest numbers : Asked) : Type 0 where
  pub reg : numbers.reg ≡ number_in_reg method op + rest.reg
  pub rm : numbers.rm ≡ number_in_rm method op + rest.rm
  pub index : numbers.index ≡ number_in_index method op + rest.index
  pub vvvv : numbers.vvvv ≡ number_in_vvvv method op + rest.vvvv
  pub opcode : numbers.opcode ≡ number_in_opcode method op + rest.opcode
  pub displacement : numbers.displacement ≡ displacement_read method op + rest.displacement
  pub reg_most : numbers.reg ≤ 259 + rest.reg
  pub rm_most : numbers.rm ≤ 259 + rest.rm
  pub index_most : numbers.index ≤ 259 + rest.index
  pub vvvv_most : numbers.vvvv ≤ 259 + rest.vvvv
  pub opcode_most : numbers.opcode ≤ 259 + rest.opcode
  pub displacement_most : numbers.displacement ≤ 259 + rest.displacement

-- each of the numbers is below another
pub record AreBelow (most : ℕ) (numbers : Asked) : Type 0 where
  pub reg : numbers.reg < most
  pub rm : numbers.rm < most
  pub index : numbers.index < most
  pub vvvv : numbers.vvvv < most
  pub opcode : numbers.opcode < most
  pub displacement : numbers.displacement < most
