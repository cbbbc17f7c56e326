-- Which prefixes of an instruction have an effect that GNU's text shows.
use Rattle.std.specs.Prelude.{◌/◌, ◌%◌, Bool, true, false, not, ◌&&◌, ◌||◌, ◌==◌, nat_lt, is_some, if◌then◌else◌, Option, Some, None}
use Rattle.std.specs.List.{list_any}
use Rattle.x86_values.specs.declared.Bits.{Bits}
use Rattle.x86_values.specs.declared.Bits.TheVariants.{B16, B64}
use Rattle.x86_values.specs.declared.Segment.{Segment}
use Rattle.x86_values.specs.declared.Segment.TheVariants.{Fs, Gs}
use Rattle.x86_values.specs.declared.Register.{Register}
use Rattle.x86_values.specs.declared.Register.TheVariants.{Low8, R32, R64}
use Rattle.x86_values.specs.declared.Operand.{Operand}
use Rattle.x86_values.specs.declared.Operand.TheVariants.{Reg, Mem as Memory}
use Rattle.x86_values.specs.declared.Instr.{Instr}
use Rattle.x86_values.specs.Comparing.{same_bits}
use Rattle.instruction_parts.specs.declared.row_types.Row.{Row}
use Rattle.instruction_parts.specs.declared.row_types.Class.TheVariants.{P66, F2, F3}
use Rattle.instruction_parts.specs.declared.row_types.Plus.TheVariants.{Register as PlusRegister}
use Rattle.instruction_parts.specs.declared.row_types.ModRmRule.TheVariants.{No as NoModRm, Fixed}
use Rattle.instruction_parts.specs.declared.row_types.Size.TheVariants.{O16, O32, O32or64, O64, W1}
use Rattle.instruction_parts.specs.declared.row_types.OpKind.{OpKind}
use Rattle.instruction_parts.specs.declared.row_types.OpKind.TheVariants.{Eb, Gb, Gw, Gd, Gv, Gy, Zb, Cn, Dn, Vx, Vo}
use Rattle.text_parts.specs.Addresses.{is_absolute}
use Rattle.text_parts.specs.PrefixWords.{shows_memory}
use Rattle.text_options.specs.declared.gnu_form.Branch.{Branch}
use Rattle.text_options.specs.declared.gnu_form.Branch.TheVariants.{No as NoBranch, Indirect}
use Rattle.text_options.specs.declared.gnu_form.Implied.{Implied}
use Rattle.text_options.specs.declared.gnu_form.Implied.TheVariants.{No as NotImplied, Source, Table}
use Rattle.text_options.specs.declared.gnu_form.Form.{Form}
use Rattle.text_options.specs.declared.gnu_prefixes.Effects.{Effects}
use Rattle.text_options.specs.declared.generated_gnu.TheConstants.{NOP}

-- ---- segments

-- the segment has no effect in the mode: ES, CS, SS and DS in 64-bit mode
unfoldable pub is_idle_segment : Bits → Segment → Bool
is_idle_segment B64 Fs = false
is_idle_segment B64 Gs = false
is_idle_segment B64 _ = true
is_idle_segment _ _ = false

-- the segment that has an effect
unfoldable pub working_segment : Bits → Option Segment → Option Segment
working_segment bits None = None
working_segment bits (Some s) = if is_idle_segment bits s then None else Some s

-- an operand that the row does not name is in the segment that a prefix names
unfoldable pub is_source : Implied → Bool
is_source Source = true
is_source Table = true
is_source _ = false

-- some operand is in the segment that a prefix names
unfoldable pub has_place : Form → Instr → Bool
has_place form instr = shows_memory instr || (is_source form.first || is_source form.second)

-- the segment is shown by memory
unfoldable pub shows_segment : Bits → Form → Instr → Bool
shows_segment bits form instr = is_some (working_segment bits instr.seg) && has_place form instr

-- ---- sizes

-- 66 has an effect on the row
unfoldable pub takes_66 : Bits → Row → Bool
takes_66 bits row = elim row.class [
  | P66 ↦ true
  | _ ↦ elim row.size [ O16 ↦ not (same_bits bits B16) | O32 ↦ same_bits bits B16 | O32or64 ↦ same_bits bits B16 | _ ↦ false ]
]

-- there is an operand that the row does not name
unfoldable pub is_some_implied : Implied → Bool
is_some_implied NotImplied = false
is_some_implied _ = true

-- the address size has an effect
unfoldable pub takes_67 : Row → Form → Instr → Bool
takes_67 row form instr = shows_memory instr || ((row.marks.0 / 2 % 2 == 1) || is_some_implied form.first)

-- W sets the operand size of the row
unfoldable pub takes_w : Row → Bool
takes_w row = elim row.size [ O64 ↦ nat_lt row.marks.0 8 | W1 ↦ true | _ ↦ false ]

-- ---- REX

-- the kind is a register that R extends
unfoldable pub is_extended : OpKind → Bool
is_extended Gb = true
is_extended Gw = true
is_extended Gd = true
is_extended Gv = true
is_extended Gy = true
is_extended Cn = true
is_extended Dn = true
is_extended Vx = true
is_extended Vo = true
is_extended _ = false

-- R extends a register of the row
unfoldable pub takes_r : Row → Bool
takes_r row = list_any is_extended row.ops

-- B extends a register of the row
unfoldable pub takes_b : Row → Bool
takes_b row = elim row.modrm [
  | NoModRm ↦ elim row.plus [ PlusRegister ↦ true | _ ↦ false ]
  | Fixed n ↦ false
  | _ ↦ true
]

-- the base is encoded with a SIB byte: RSP, ESP, R12 or R12D
unfoldable pub is_stack_base : Option Register → Bool
is_stack_base (Some (R64 n)) = (n == 4) || (n == 12)
is_stack_base (Some (R32 n)) = (n == 4) || (n == 12)
is_stack_base _ = false

-- the operand is memory that has a SIB byte
unfoldable pub has_sib : Operand → Bool
has_sib (Memory m) = is_some m.index || (is_stack_base m.base || is_absolute m)
has_sib _ = false

-- X extends a register of the instruction
unfoldable pub takes_x : Instr → Bool
takes_x instr = list_any has_sib instr.ops

-- the operand is the register of a byte
unfoldable pub is_byte_register : Operand → Bool
is_byte_register (Reg (Low8 n)) = true
is_byte_register _ = false

-- the kind may be a register of a byte that REX changes
unfoldable pub is_byte_kind : OpKind → Bool
is_byte_kind Eb = true
is_byte_kind Gb = true
is_byte_kind Zb = true
is_byte_kind _ = false

-- the row has a register of a byte that REX changes
unfoldable pub has_byte_kind : Row → Bool
has_byte_kind row = list_any is_byte_kind row.ops

-- the instruction has the register of a byte
unfoldable pub has_byte_register : Instr → Bool
has_byte_register instr = list_any is_byte_register instr.ops

-- REX changes the register of a byte
unfoldable pub takes_rex : Row → Instr → Bool
takes_rex row instr = has_byte_kind row && has_byte_register instr

-- ---- repeats and branches

-- F2 is part of the opcode
unfoldable pub is_f2_row : Row → Bool
is_f2_row row = elim row.class [ F2 ↦ true | _ ↦ false ]

-- F3 is part of the opcode
unfoldable pub is_f3_row : Row → Bool
is_f3_row row = elim row.class [ F3 ↦ true | _ ↦ false ]

-- F2 is called bnd
unfoldable pub is_branch : Branch → Bool
is_branch NoBranch = false
is_branch _ = true

-- DS is called notrack
unfoldable pub is_indirect : Branch → Bool
is_indirect Indirect = true
is_indirect _ = false

-- ---- all of them

-- what the prefixes of an instruction do, by its row and its form
unfoldable pub effects_of : Bits → Row → Form → Instr → Effects
effects_of bits row form instr = record {
  bits = bits;
  operand_size = takes_66 bits row || (instr.code.0 == NOP);
  address_size = takes_67 row form instr;
  segment = shows_segment bits form instr;
  f2 = is_f2_row row;
  f3 = is_f3_row row;
  repeats = form.repeats;
  bnd = is_branch form.branch;
  notrack = is_indirect form.branch;
  w = takes_w row;
  r = takes_r row;
  x = takes_x instr;
  b = takes_b row;
  byte = takes_rex row instr;
}
