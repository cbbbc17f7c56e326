-- The front that the plain spelling of an instruction has: the prefixes, the VEX, the map and the opcode byte.
use Rattle.std.specs.Prelude.{ℕ, ◌+◌, ◌*◌, ◌%◌, Bool, true, false, ◌&&◌, ◌||◌, not, nat_le, nat_lt, min, if◌then◌else◌, List, [], ◌∷◌, length, Option, Some, None, is_some}
use Rattle.x86_values.specs.declared.Bits.{Bits}
use Rattle.x86_values.specs.declared.Register.{Register}
use Rattle.x86_values.specs.declared.Register.TheVariants.{Low8, High8}
use Rattle.x86_values.specs.declared.Operand.{Operand}
use Rattle.x86_values.specs.declared.Operand.TheVariants.{Reg, Mem as MemOperand}
use Rattle.x86_values.specs.declared.Rep.{Rep}
use Rattle.x86_values.specs.declared.Rep.TheVariants.{None as NoRep, F2 as RepF2, F3 as RepF3}
use Rattle.x86_values.specs.declared.Instr.{Instr}
use Rattle.x86_values.specs.Registers.{number}
use Rattle.instruction_parts.specs.declared.row_types.Row.{Row}
use Rattle.instruction_parts.specs.declared.row_types.Map.TheVariants.{M0f}
use Rattle.instruction_parts.specs.declared.row_types.Class.{Class}
use Rattle.instruction_parts.specs.declared.row_types.Class.TheVariants.{P66, F3 as ClassF3, F2 as ClassF2}
use Rattle.instruction_parts.specs.declared.row_types.Plus.TheVariants.{Register as PlusRegister}
use Rattle.instruction_parts.specs.declared.row_types.Size.TheVariants.{O16, O32, O32or64, O64, W1 as SizeW1}
use Rattle.instruction_parts.specs.declared.row_types.WBit.TheVariants.{W1}
use Rattle.instruction_parts.specs.declared.row_types.LBit.TheVariants.{L256}
use Rattle.instruction_parts.specs.declared.row_types.OpKind.{OpKind}
use Rattle.instruction_parts.specs.declared.kinds.Method.{Method}
use Rattle.instruction_parts.specs.declared.kinds.Method.TheVariants.{ModRmReg, RegisterOrMemory, RegisterOnly, MemoryOnly, AnyMode, OpcodeLow, Vvvv, Gather}
use Rattle.instruction_parts.specs.declared.spelling.Vex.{Vex}
use Rattle.instruction_parts.specs.declared.spelling.PrefixState.{PrefixState}
use Rattle.instruction_parts.specs.Kinds.{method_of}
use Rattle.instruction_parts.specs.Counting.{is_16}
use Rattle.instruction_parts.specs.Sizes.{is_vex_row, has_caret, has_bang}
use Rattle.instruction_parts.specs.Bytes.{bit, lead_bytes}
use Rattle.row_fit.specs.Fits.{same_map}
use Rattle.x86_values.specs.Comparing.{same_bits}

-- ---- registers by number

-- the number that the encoding gives a register; AH, CH, DH and BH have 4 to 7
unfoldable pub register_number : Register → ℕ
register_number (High8 n) = 4 + n
register_number r = number r

-- the number of a register that may be absent, 0 without one
abbrev pub number_or_zero : Option Register → ℕ
number_or_zero None = 0
number_or_zero (Some r) = register_number r

-- SPL, BPL, SIL or DIL, which only a REX can name
unfoldable pub is_low_byte_of_rex : Operand → Bool
is_low_byte_of_rex (Reg (Low8 n)) = nat_le 4 n && nat_lt n 8
is_low_byte_of_rex _ = false

-- ---- the operands of a field

-- a number of some operands with their kinds, added up over those that have it
abbrev pub over_operands : (Method → Operand → ℕ) → List OpKind → List Operand → ℕ
over_operands f [] ops = 0
over_operands f (kind ∷ kinds) [] = 0
over_operands f (kind ∷ kinds) (op ∷ ops) = f (method_of kind) op + over_operands f kinds ops

-- the number of a register operand
abbrev pub operand_number : Operand → ℕ
operand_number (Reg r) = register_number r
operand_number _ = 0

-- the number of a register operand, or of a memory operand's base
abbrev pub base_or_register_number : Operand → ℕ
base_or_register_number (Reg r) = register_number r
base_or_register_number (MemOperand m) = number_or_zero m.base
base_or_register_number _ = 0

-- the number of a memory operand's index
abbrev pub operand_index_number : Operand → ℕ
operand_index_number (MemOperand m) = number_or_zero m.index
operand_index_number _ = 0

-- what an operand that is read from ModRM.reg asks of it
unfoldable pub number_in_reg : Method → Operand → ℕ
number_in_reg ModRmReg op = operand_number op
number_in_reg _ op = 0

-- what an operand asks of r/m, of the SIB's base and of the register in the opcode byte
unfoldable pub number_in_rm : Method → Operand → ℕ
number_in_rm RegisterOrMemory op = base_or_register_number op
number_in_rm RegisterOnly op = base_or_register_number op
number_in_rm MemoryOnly op = base_or_register_number op
number_in_rm AnyMode op = base_or_register_number op
number_in_rm Gather op = base_or_register_number op
number_in_rm OpcodeLow op = base_or_register_number op
number_in_rm _ op = 0

-- what an operand asks of the SIB's index
unfoldable pub number_in_index : Method → Operand → ℕ
number_in_index method op = operand_index_number op

-- what an operand that is read from vvvv asks of it
unfoldable pub number_in_vvvv : Method → Operand → ℕ
number_in_vvvv Vvvv op = operand_number op
number_in_vvvv _ op = 0

-- what an operand that is read from the opcode byte asks of it
unfoldable pub number_in_opcode : Method → Operand → ℕ
number_in_opcode OpcodeLow op = operand_number op
number_in_opcode _ op = 0

-- the number that the instruction asks of a field of the row
abbrev pub number_asked_of : (Method → Operand → ℕ) → Row → Instr → ℕ
number_asked_of f row i = over_operands f row.ops i.ops

-- ModRM.reg needs a fourth bit: R (2.2.1.2)
unfoldable pub asks_r : Row → Instr → Bool
asks_r row i = nat_le 8 (number_asked_of number_in_reg row i)

-- the index of SIB needs a fourth bit: X (2.2.1.2)
unfoldable pub asks_x : Row → Instr → Bool
asks_x row i = nat_le 8 (number_asked_of number_in_index row i)

-- ModRM.r/m, the base of SIB or the register of the opcode byte needs a fourth bit: B (2.2.1.2)
unfoldable pub asks_b : Row → Instr → Bool
asks_b row i = nat_le 8 (number_asked_of number_in_rm row i)

-- some operand is SPL, BPL, SIL or DIL
abbrev pub asks_low_byte : List Operand → Bool
asks_low_byte [] = false
asks_low_byte (op ∷ ops) = is_low_byte_of_rex op || asks_low_byte ops

-- ---- what the row asks for

-- W 1 of a legacy row
unfoldable pub asks_rex_w : Row → Bool
asks_rex_w row = elim row.size [ O64 ↦ not (has_caret row || has_bang row) | SizeW1 ↦ true | _ ↦ false ]

-- W 1 of a VEX row
unfoldable pub asks_vex_w : Row → Bool
asks_vex_w row = elim row.w [ W1 ↦ true | _ ↦ false ]

-- 66: for the class, or for an operand size of 16 or 32 that is not the row's default in the mode
unfoldable pub asks_66 : Bits → Row → Bool
asks_66 bits row =
    not (is_vex_row row)
    && elim row.class [
      | P66 ↦ true
      | _ ↦ elim row.size [ O16 ↦ not (is_16 bits) | O32 ↦ is_16 bits | O32or64 ↦ is_16 bits | _ ↦ false ]
    ]

-- 67: for an address size that is not the mode's
unfoldable pub asks_67 : Bits → Option Bits → Bool
asks_67 bits None = false
asks_67 bits (Some asize) = not (same_bits asize bits)

-- F2 or F3: for the class of a legacy row, else for the repeat prefix that the instruction keeps
unfoldable pub asked_repeat : Row → Instr → Rep
asked_repeat row i = if is_vex_row row then i.rep else elim row.class [ ClassF2 ↦ RepF2 | ClassF3 ↦ RepF3 | _ ↦ i.rep ]

-- the REX of a legacy row, where something needs one
unfoldable pub asked_rex : Row → Instr → Option ℕ
asked_rex row i =
    let w = asks_rex_w row in let r = asks_r row i in let x = asks_x row i in let b = asks_b row i in
    if not (is_vex_row row) && (w || (r || (x || (b || asks_low_byte i.ops))))
    then Some (0x40 + (bit w * 8 + (bit r * 4 + (bit x * 2 + bit b)))) else None

-- the value of pp by the class of a VEX row
unfoldable pub class_pp : Class → ℕ
class_pp P66 = 1
class_pp ClassF3 = 2
class_pp ClassF2 = 3
class_pp _ = 0

-- the VEX of a VEX row with this vvvv: two bytes where its map is 0F and x, b and w are 0
abbrev pub vex_with : Row → Instr → ℕ → Option Vex
vex_with row i vvvv =
    let x = asks_x row i in let b = asks_b row i in let w = asks_vex_w row in
    if is_vex_row row then Some (record {
      three = not (same_map row.map M0f) || (x || (b || w));
      r = asks_r row i;
      x = x;
      b = b;
      w = w;
      l = elim row.l [ L256 ↦ true | _ ↦ false ];
      map = row.map;
      vvvv = vvvv;
      pp = class_pp row.class;
    }) else None

-- the VEX of a VEX row
unfoldable pub asked_vex : Row → Instr → Option Vex
asked_vex row i = vex_with row i (number_asked_of number_in_vvvv row i)

-- the opcode byte, with the low three bits of a register that it adds
unfoldable pub asked_opcode : Row → Instr → ℕ
asked_opcode row i =
    elim row.plus [ PlusRegister ↦ row.opcode + number_asked_of number_in_opcode row i % 8 | _ ↦ row.opcode ]

-- how many repeat prefixes there are
abbrev pub count_repeat : Rep → ℕ
count_repeat NoRep = 0
count_repeat _ = 1

-- the number of the bytes before the opcode byte
unfoldable pub asked_used : Bits → Row → Instr → ℕ
asked_used bits row i =
    bit i.lock + (count_repeat (asked_repeat row i) + (bit (is_some i.seg) + (bit (asks_66 bits row)
    + (bit (asks_67 bits i.asize) + (bit (is_some (asked_rex row i)) + length (lead_bytes row.map (asked_vex row i)))))))

-- the plain front
unfoldable pub plain_front_of : Bits → Row → Instr → PrefixState
plain_front_of bits row i = record {
  used = asked_used bits row i;
  size66 = asks_66 bits row;
  addr67 = asks_67 bits i.asize;
  lock = i.lock;
  rep = asked_repeat row i;
  seg = i.seg;
  rex = asked_rex row i;
  vex = asked_vex row i;
  map = row.map;
  opcode = asked_opcode row i;
}

-- the front with a vvvv of at most 255, which is the plain front wherever the registers have numbers of the mode
unfoldable pub byte_front : Bits → Row → Instr → PrefixState
byte_front bits row i = record (plain_front_of bits row i) { vex = vex_with row i (min 255 (number_asked_of number_in_vvvv row i)) }
