-- The registers that an instruction touches.
use Rattle.std.specs.Prelude.{ℕ, nat_lt, ◌==◌, Bool, true, false, ◌&&◌, if◌then◌else◌, List, [], ◌∷◌, ◌++◌, Option, Some, None, slice_get}
use Rattle.x86_values.specs.declared.Bits.{Bits}
use Rattle.x86_values.specs.declared.Bits.TheVariants.{B16, B32, B64}
use Rattle.x86_values.specs.declared.Segment.{Segment}
use Rattle.x86_values.specs.declared.Segment.TheVariants.{Fs, Gs}
use Rattle.x86_values.specs.declared.Register.{Register}
use Rattle.x86_values.specs.declared.Register.TheVariants.{Low8, High8, R16, R32, R64, Seg, Cr, Dr, St, Mm, Xmm, Ymm, Eip, Rip}
use Rattle.x86_values.specs.declared.Instr.{Instr}
use Rattle.instruction_parts.specs.declared.row_types.Row.{Row}
use Rattle.instruction_parts.specs.declared.row_types.RowKind.{RowKind}
use Rattle.instruction_parts.specs.declared.row_types.RowKind.TheVariants.{Legacy}
use Rattle.instruction_parts.specs.declared.row_types.Map.{Map}
use Rattle.instruction_parts.specs.declared.row_types.Map.TheVariants.{M0f}
use Rattle.instruction_parts.specs.declared.row_types.Class.{Class}
use Rattle.instruction_parts.specs.declared.row_types.Class.TheVariants.{F2, F3}
use Rattle.opcode_rows.specs.Table.{table}
use Rattle.operand_info.specs.declared.columns.Access.{Access}
use Rattle.operand_info.specs.declared.columns.Access.TheVariants as operand
use Rattle.operand_info.specs.declared.registers.RegUse.{RegUse}
use Rattle.operand_info.specs.Operands.{uses}
use Rattle.instruction_info.specs.declared.effect.AccessKind.{AccessKind}
use Rattle.instruction_info.specs.declared.effect.AccessKind.TheVariants.{Read, Write, ReadWrite, ConditionalRead, ConditionalWrite, ConditionalReadWrite, ReadConditionalWrite}
use Rattle.instruction_info.specs.declared.effect.RegisterGroup.{RegisterGroup}
use Rattle.instruction_info.specs.declared.effect.RegisterGroup.TheVariants as group
use Rattle.instruction_info.specs.declared.effect.ImpliedRegister.{ImpliedRegister}
use Rattle.instruction_info.specs.declared.memory.MemoryUse.{MemoryUse}
use Rattle.instruction_info.specs.declared.registers.RegisterUse.{RegisterUse}
use Rattle.instruction_info.specs.declared.setting.Setting.{Setting}
use Rattle.instruction_info.specs.Effects.{names_memory, registers_of}
use Rattle.instruction_info.specs.Settings.{setting_of, register_of_size, register_in, done}
use Rattle.instruction_info.specs.Memory.{all_memory}

-- the widest register that holds a register (volume 1, 3.4.1.1 and 14.1.1)
abbrev pub full_register : Register → Register
full_register (Low8 n) = R64 n
full_register (High8 n) = R64 n
full_register (R16 n) = R64 n
full_register (R32 n) = R64 n
full_register (R64 n) = R64 n
full_register (Xmm n) = Ymm n
full_register (Ymm n) = Ymm n
full_register Eip = Rip
full_register Rip = Rip
full_register (Seg s) = Seg s
full_register (Cr n) = Cr n
full_register (Dr n) = Dr n
full_register (St n) = St n
full_register (Mm n) = Mm n

-- ---- registers that operands name

-- the place is that of MOVSS and MOVSD into a vector register: F3 0F 10 and F2 0F 10
abbrev pub is_scalar_load : RowKind → Map → Class → ℕ → Bool
is_scalar_load Legacy M0f F3 op = op == 0x10
is_scalar_load Legacy M0f F2 op = op == 0x10
is_scalar_load _ _ _ op = false

-- the same of a row that may be absent
abbrev pub loads_scalar : Option Row → Bool
loads_scalar None = false
loads_scalar (Some row) = is_scalar_load row.kind row.map row.class row.opcode

-- the form of the instruction replaces what the columns have as read and written: MOVSS and MOVSD from memory write 0 to the rest of their
-- destination, which a move between registers keeps (volume 2, MOVSS and MOVSD: operation)
unfoldable pub replaces : Instr → Bool
replaces i = loads_scalar (slice_get table i.code.0) && names_memory i

-- the access of an operand
abbrev pub operand_access : Bool → Access → AccessKind
operand_access replaced operand.None = Read
operand_access replaced operand.Read = Read
operand_access replaced operand.Write = Write
operand_access replaced operand.ReadWrite = if replaced then Write else ReadWrite

-- their uses
unfoldable pub named_uses : Bool → List RegUse → List RegisterUse
named_uses replaced [] = []
named_uses replaced (one ∷ rest) = record { reg = one.reg; access = operand_access replaced one.access } ∷ named_uses replaced rest

-- ---- segment registers

-- the segment register counts in an address: in 64-bit mode FS and GS alone (volume 1, 3.4.2.1)
abbrev pub counts : Bits → Segment → Bool
counts B64 Fs = true
counts B64 Gs = true
counts B64 _ = false
counts B16 segment = true
counts B32 segment = true

-- the segment register of memory is read, conditionally where all that is done there is conditional
abbrev pub segment_access : AccessKind → AccessKind
segment_access Read = Read
segment_access Write = Read
segment_access ReadWrite = Read
segment_access ReadConditionalWrite = Read
segment_access ConditionalRead = ConditionalRead
segment_access ConditionalWrite = ConditionalRead
segment_access ConditionalReadWrite = ConditionalRead

-- the use of the segment register of some memory
abbrev pub segment_use : Bits → MemoryUse → List RegisterUse
segment_use bits m = if counts bits m.segment then record { reg = Seg m.segment; access = segment_access m.access } ∷ [] else []

-- the uses of the segment registers of some memory
unfoldable pub segment_uses : Bits → List MemoryUse → List RegisterUse
segment_uses bits [] = []
segment_uses bits (m ∷ ms) = segment_use bits m ++ segment_uses bits ms

-- ---- implied registers

-- the mode has the register: XMM8 to XMM15 and YMM8 to YMM15 are those of 64-bit mode (volume 1, 3.2.1 and 14.1.1)
abbrev pub is_there : Bits → RegisterGroup → ℕ → Bool
is_there B64 _ n = true
is_there _ group.Xmm n = nat_lt n 8
is_there _ group.Ymm n = nat_lt n 8
is_there _ _ n = true

-- the use of an implied register, none where the mode has it not
abbrev pub implied_use : Setting → ImpliedRegister → List RegisterUse
implied_use s one =
    if is_there s.bits one.group one.number then record { reg = register_in s one.group one.number; access = done s one.access } ∷ [] else []

-- the uses of implied registers
unfoldable pub implied_uses : Setting → List ImpliedRegister → List RegisterUse
implied_uses s [] = []
implied_uses s (one ∷ rest) = implied_use s one ++ implied_uses s rest

-- the counter of a repeat prefix, by the address size: it is read, and counted down where it was not 0 (REP)
abbrev pub counter_use : Setting → List RegisterUse
counter_use s = if s.repeated then record { reg = register_of_size s.address 1; access = ReadConditionalWrite } ∷ [] else []

-- ---- all of them

-- what operands name, the segments of memory, what is implied, and the counter
unfoldable pub all_registers : Bits → Instr → List RegisterUse
all_registers bits i =
    named_uses (replaces i) (uses i)
    ++ (segment_uses bits (all_memory bits i)
    ++ (implied_uses (setting_of bits i) (registers_of i.code.0) ++ counter_use (setting_of bits i)))
