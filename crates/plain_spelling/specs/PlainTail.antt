-- The plain spelling of an instruction: each needed prefix once, no field that nothing asks for, and the shortest form of each part
-- (Intel SDM volume 2, 2.1 to 2.3).
use Rattle.std.specs.Prelude.{ℕ, ◌+◌, ◌-◌, ◌*◌, ◌/◌, ◌%◌, Bool, true, false, ◌||◌, if◌then◌else◌, List, [], ◌∷◌, ◌++◌, Option, Some, None, is_some}
use Rattle.x86_values.specs.declared.Bits.{Bits}
use Rattle.x86_values.specs.declared.Segment.{Segment}
use Rattle.x86_values.specs.declared.Segment.TheVariants.{Es, Cs, Ss, Ds, Fs, Gs}
use Rattle.x86_values.specs.declared.Mem.{Mem}
use Rattle.x86_values.specs.declared.Operand.{Operand}
use Rattle.x86_values.specs.declared.Operand.TheVariants.{Absent as AbsentOperand, Reg, Mem as MemOperand, Imm, Near, Far}
use Rattle.x86_values.specs.declared.Rep.{Rep}
use Rattle.x86_values.specs.declared.Rep.TheVariants.{None as NoRep, F2 as RepF2, F3 as RepF3}
use Rattle.x86_values.specs.declared.Instr.{Instr}
use Rattle.x86_values.specs.Wrapping.{modulo_width}
use Rattle.instruction_parts.specs.declared.row_types.Row.{Row}
use Rattle.instruction_parts.specs.declared.row_types.Plus.TheVariants.{Stack as PlusStack}
use Rattle.instruction_parts.specs.declared.row_types.ModRmRule.TheVariants.{No as NoModRm, Any as AnyModRm, Digit, Fixed as FixedByte}
use Rattle.instruction_parts.specs.declared.row_types.Place.{Place}
use Rattle.instruction_parts.specs.declared.row_types.Place.TheVariants.{Register as OnlyRegister}
use Rattle.instruction_parts.specs.declared.row_types.OpKind.{OpKind}
use Rattle.arrayvec.specs.ArrayVec.{ArrayVec}
use Rattle.instruction_parts.specs.declared.kinds.Method.{Method}
use Rattle.instruction_parts.specs.declared.kinds.Method.TheVariants as method
use Rattle.instruction_parts.specs.declared.spelling.ModRm.{ModRm}
use Rattle.instruction_parts.specs.declared.spelling.Sib.{Sib}
use Rattle.instruction_parts.specs.declared.spelling.Spelling.{Spelling}
use Rattle.instruction_parts.specs.declared.spelling.PrefixState.{PrefixState}
use Rattle.instruction_parts.specs.Kinds.{method_of}
use Rattle.instruction_parts.specs.Sizes.{is_vex_row, operand_size}
use Rattle.row_fit.specs.Fits.{kind_at, immediate_bytes, is_offset}
use Rattle.row_fit.specs.Sound.{reads_rm}
use Rattle.plain_spelling.specs.Values.{low_bytes, distance}
use Rattle.plain_spelling.specs.Forms.{operand_at}
use Rattle.plain_spelling.specs.PlainFront.{register_number, number_in_reg, number_in_rm, number_asked_of, asks_rex_w, asks_66, plain_front_of}
use Rattle.plain_spelling.specs.declared.addresses.AddressForm.TheVariants.{Relative}
use Rattle.plain_spelling.specs.declared.addresses.AddressFields.{AddressFields}
use Rattle.plain_spelling.specs.Addresses.{form_of, written_size, displacement_count, address_fields}

-- ---- the prefixes

-- a prefix byte that is needed or not
abbrev pub byte_if : Bool → ℕ → List ℕ
byte_if true b = b ∷ []
byte_if false b = []

-- the prefix byte of a segment (2.1.1, group 2)
abbrev pub segment_byte : Segment → ℕ
segment_byte Es = 0x26
segment_byte Cs = 0x2E
segment_byte Ss = 0x36
segment_byte Ds = 0x3E
segment_byte Fs = 0x64
segment_byte Gs = 0x65

-- the segment prefix, where there is one
abbrev pub segment_prefix : Option Segment → List ℕ
segment_prefix None = []
segment_prefix (Some s) = segment_byte s ∷ []

-- the repeat prefix (2.1.1, group 1)
abbrev pub repeat_prefix : Rep → List ℕ
repeat_prefix NoRep = []
repeat_prefix RepF2 = 0xF2 ∷ []
repeat_prefix RepF3 = 0xF3 ∷ []

-- the REX, where there is one
abbrev pub rex_prefix : Option ℕ → List ℕ
rex_prefix None = []
rex_prefix (Some rex) = rex ∷ []

-- the prefix bytes of a front, each once: legacy prefixes ascending by their number, then the REX, which stands directly before the
-- opcode or its escape bytes (2.1.1, 2.2.1)
unfoldable pub prefixes_of : PrefixState → List ℕ
prefixes_of f =
    segment_prefix f.seg ++ (byte_if f.size66 0x66 ++ (byte_if f.addr67 0x67 ++ (byte_if f.lock 0xF0
    ++ (repeat_prefix f.rep ++ rex_prefix f.rex))))

-- ---- operands by where they are read

-- the first operand that is read so, absent without one
abbrev pub operand_where : (Method → Bool) → List OpKind → List Operand → Operand
operand_where p [] ops = AbsentOperand
operand_where p (kind ∷ kinds) [] = AbsentOperand
operand_where p (kind ∷ kinds) (op ∷ ops) = if p (method_of kind) then op else operand_where p kinds ops

-- the operand that ModRM.rm names
abbrev pub rm_operand : Row → Instr → Operand
rm_operand row i = operand_where reads_rm row.ops i.ops

-- the operand that may have a displacement
abbrev pub address_operand : Row → Instr → Operand
address_operand row i = operand_where (λ how. reads_rm how || is_offset how) row.ops i.ops

-- ---- sizes

-- the operand size under the plain prefixes: that of the row
unfoldable pub plain_size : Bits → Row → Bits
plain_size bits row = operand_size bits row (if is_vex_row row then false else asks_rex_w row) (asks_66 bits row)

-- ---- ModRM and SIB

-- mod and rm of no memory operand, without a SIB
abbrev pub no_address : ℕ → ℕ → AddressFields
no_address mode3 rm = record { mode3 = mode3; rm = rm; sib = None }

-- mod where no operand is read from r/m: 3 on rows that are limited to a register (2.1.5)
abbrev pub lone_mode : Place → ℕ
lone_mode OnlyRegister = 3
lone_mode _ = 0

-- mod, rm and SIB of the operand in r/m: a register has mod 3 (2.1.5)
unfoldable pub rm_fields : Bits → Option Bits → Place → Operand → AddressFields
rm_fields bits asize place (Reg r) = no_address 3 (register_number r % 8)
rm_fields bits asize place (MemOperand m) = address_fields bits (written_size bits asize m) m
rm_fields bits asize place _ = no_address (lone_mode place) 0

-- mod, rm and SIB of the operand of an instruction that stands in r/m
abbrev pub fields_of : Bits → Row → Instr → AddressFields
fields_of bits row i = rm_fields bits i.asize row.place (rm_operand row i)

-- the ModRM byte of these fields and reg
abbrev pub modrm_with : ℕ → AddressFields → ModRm
modrm_with reg fields = record { mode3 = fields.mode3; reg = reg; rm = fields.rm }

-- rm of a fixed ModRM byte: its own, or the stack number that the row adds (3.1.1.1, +i)
unfoldable pub fixed_rm : Row → Instr → ℕ → ℕ
fixed_rm row i b = elim row.plus [ PlusStack ↦ number_asked_of number_in_rm row i % 8 | _ ↦ b % 8 ]

-- the ModRM: reg is the digit, or the register's low three bits (2.1.5, 3.1.1.1)
unfoldable pub plain_modrm : Bits → Row → Instr → Option ModRm
plain_modrm bits row i =
    elim row.modrm [
      | NoModRm ↦ None
      | AnyModRm ↦ Some (modrm_with (number_asked_of number_in_reg row i % 8) (fields_of bits row i))
      | Digit d ↦ Some (modrm_with d (fields_of bits row i))
      | FixedByte b ↦ Some (record { mode3 = b / 64; reg = b / 8 % 8; rm = fixed_rm row i b })
    ]

-- the SIB
unfoldable pub plain_sib_of : Bits → Row → Instr → Option Sib
plain_sib_of bits row i =
    elim row.modrm [ NoModRm ↦ None | AnyModRm ↦ (fields_of bits row i).sib | Digit d ↦ (fields_of bits row i).sib | FixedByte b ↦ None ]

-- ---- displacement and immediates

-- how many bytes the displacement of an operand has
abbrev pub operand_displacement : Operand → ℕ
operand_displacement (MemOperand m) = displacement_count m.disp_size
operand_displacement _ = 0

-- how many bytes of displacement an operand has that is read so: by r/m, or at an absolute address
unfoldable pub displacement_read : Method → Operand → ℕ
displacement_read method.RegisterOrMemory op = operand_displacement op
displacement_read method.RegisterOnly op = operand_displacement op
displacement_read method.MemoryOnly op = operand_displacement op
displacement_read method.AnyMode op = operand_displacement op
displacement_read method.Gather op = operand_displacement op
displacement_read method.Offset op = operand_displacement op
displacement_read _ op = 0

-- the bytes of a displacement before the next address: at RIP and EIP the distance to the address (2.2.1.6)
unfoldable pub displacement_of : ℕ → Mem → List ℕ
displacement_of next m =
    elim (form_of m.base m.index) [
      | Relative size ↦ low_bytes (displacement_count m.disp_size) (distance size next m.disp)
      | _ ↦ low_bytes (displacement_count m.disp_size) m.disp
    ]

-- the displacement of a memory operand; other operands have none
abbrev pub displacement_of_operand : ℕ → Operand → List ℕ
displacement_of_operand next (MemOperand m) = displacement_of next m
displacement_of_operand next _ = []

-- the bytes of a register number in the upper four bits of the last byte (2.3.9)
abbrev pub last_byte_of : Operand → List ℕ
last_byte_of (Reg r) = register_number r * 16 ∷ []
last_byte_of _ = []

-- the low bytes of an immediate
abbrev pub immediate_of : ℕ → Operand → List ℕ
immediate_of n (Imm x) = low_bytes n x
immediate_of n _ = []

-- the offset of a near branch, in n bytes before the next address (CALL, JMP, Jcc)
abbrev pub offset_of : Bits → ℕ → ℕ → Operand → List ℕ
offset_of size next n (Near target) = low_bytes n (distance size next target)
offset_of size next n _ = []

-- a far pointer in n bytes: the offset, then the selector
abbrev pub pointer_of : ℕ → Operand → List ℕ
pointer_of n (Far selector offset) = low_bytes (n - 2) offset ++ low_bytes 2 selector
pointer_of n _ = []

-- the bytes of an operand that is read so and has n bytes behind the instruction
unfoldable pub operand_immediate : Bits → ℕ → Method → ℕ → Operand → List ℕ
operand_immediate size next method.AsWritten n op = immediate_of n op
operand_immediate size next method.Extended n op = immediate_of n op
operand_immediate size next method.Near n op = offset_of size next n op
operand_immediate size next method.Pointer n op = pointer_of n op
operand_immediate size next method.LastByte n op = last_byte_of op
operand_immediate size next _ n op = []

-- the immediate bytes of operand n of an instruction
unfoldable pub immediate_at : Bits → Row → Instr → ℕ → ℕ → List ℕ
immediate_at size row i next n =
    operand_immediate size next (method_of (kind_at row n)) (immediate_bytes size (kind_at row n)) (operand_at i n)

-- the bytes of all immediates, in the order of the operands
unfoldable pub plain_immediates : Bits → Row → Instr → ℕ → List ℕ
plain_immediates size row i next =
    immediate_at size row i next 0 ++ (immediate_at size row i next 1 ++ (immediate_at size row i next 2 ++ immediate_at size row i next 3))

-- ---- all of it

-- one byte, or none
abbrev pub byte_count : Bool → ℕ
byte_count true = 1
byte_count false = 0

-- how many bytes the plain spelling has: the front, the opcode byte, ModRM, SIB, displacement and immediates (2.1)
unfoldable pub plain_len : Bits → Row → Instr → ℕ
plain_len bits row i =
    (plain_front_of bits row i).used
    + (1 + (byte_count (is_some (plain_modrm bits row i)) + (byte_count (is_some (plain_sib_of bits row i))
    + (operand_displacement (address_operand row i)
    + (immediate_bytes (plain_size bits row) (kind_at row 0) + (immediate_bytes (plain_size bits row) (kind_at row 1)
    + (immediate_bytes (plain_size bits row) (kind_at row 2) + immediate_bytes (plain_size bits row) (kind_at row 3))))))))

-- the address behind the plain spelling at an address
unfoldable pub plain_next : Bits → ℕ → Row → Instr → ℕ
plain_next bits ip row i = modulo_width bits (ip + plain_len bits row i)

-- bytes as a list of fixed room
abbrev pub array_of : List ℕ → ArrayVec ℕ
array_of bytes = record { items = bytes }

-- the plain spelling of an instruction of the row at an address
unfoldable pub plain_spelling : Bits → ℕ → Row → Instr → Spelling
plain_spelling bits ip row i =
    let front = plain_front_of bits row i in
    let next = plain_next bits ip row i in
    record {
      prefixes = array_of (prefixes_of front);
      vex = front.vex;
      opcode = front.opcode;
      modrm = plain_modrm bits row i;
      sib = plain_sib_of bits row i;
      disp = array_of (displacement_of_operand next (address_operand row i));
      imm = array_of (plain_immediates (plain_size bits row) row i next);
    }

-- the plain spelling from the opcode byte on: without prefixes and without a VEX
unfoldable pub plain_tail : Bits → ℕ → Row → Instr → Spelling
plain_tail bits ip row i = record (plain_spelling bits ip row i) { prefixes = array_of []; vex = None }
