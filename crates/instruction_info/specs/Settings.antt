-- What the implied registers and addresses of an instruction go by: mode, operand size, address size, segment prefix, repeat prefix.
use Rattle.std.specs.Prelude.{ℕ, Bool, true, false, ◌&&◌, ◌==◌, if◌then◌else◌, Option, Some, None, slice_get, unwrap_or}
use Rattle.x86_values.specs.declared.Bits.{Bits}
use Rattle.x86_values.specs.declared.Bits.TheVariants.{B16, B32, B64}
use Rattle.x86_values.specs.declared.Segment.{Segment}
use Rattle.x86_values.specs.declared.Segment.TheVariants.{Es, Cs, Ss, Ds, Fs, Gs}
use Rattle.x86_values.specs.declared.Register.{Register}
use Rattle.x86_values.specs.declared.Register.TheVariants.{Low8, High8, R16, R32, R64, Seg, Cr, St, Xmm, Ymm}
use Rattle.x86_values.specs.declared.Rep.{Rep}
use Rattle.x86_values.specs.declared.Rep.TheVariants as rep
use Rattle.x86_values.specs.declared.Instr.{Instr}
use Rattle.instruction_parts.specs.declared.row_types.Row.{Row}
use Rattle.instruction_parts.specs.declared.row_types.Size.{Size}
use Rattle.instruction_parts.specs.declared.row_types.Size.TheVariants.{O16, O64, W1}
use Rattle.opcode_rows.specs.Table.{table}
use Rattle.instruction_info.specs.declared.effect.AccessKind.{AccessKind}
use Rattle.instruction_info.specs.declared.effect.AccessKind.TheVariants.{Read, Write, ReadWrite, ConditionalRead, ConditionalWrite, ConditionalReadWrite, ReadConditionalWrite}
use Rattle.instruction_info.specs.declared.effect.RegisterGroup.{RegisterGroup}
use Rattle.instruction_info.specs.declared.effect.RegisterGroup.TheVariants as group
use Rattle.instruction_info.specs.declared.setting.Setting.{Setting}
use Rattle.instruction_info.specs.Effects.{effect_of}

-- ---- sizes

-- the operand size that a row asks for, or that its W is; 32 where it asks for none
abbrev pub named_operand_size : Size → Bits
named_operand_size O16 = B16
named_operand_size O64 = B64
named_operand_size W1 = B64
named_operand_size _ = B32

-- the operand size that a row asks for, or 32 where there is no row
abbrev pub size_in : Option Row → Bits
size_in None = B32
size_in (Some row) = named_operand_size row.size

-- there is a repeat prefix
abbrev pub has_repeat : Rep → Bool
has_repeat rep.None = false
has_repeat _ = true

-- what an instruction goes by in a mode, which is the stack size too; its address size is the one that it keeps, else the mode's
unfoldable pub setting_of : Bits → Instr → Setting
setting_of bits i = record {
  bits = bits;
  operand = size_in (slice_get table i.code.0);
  address = unwrap_or i.asize bits;
  seg = i.seg;
  repeated = has_repeat i.rep && (effect_of i.code.0).repeats;
}

-- ---- registers

-- the general register of a size
abbrev pub register_of_size : Bits → ℕ → Register
register_of_size B16 n = R16 n
register_of_size B32 n = R32 n
register_of_size B64 n = R64 n

-- the general register of 64 bits in 64-bit mode, and else of 32
abbrev pub wide : Bits → ℕ → Register
wide B64 n = R64 n
wide _ n = R32 n

-- the segment register of a number (volume 2, table 3-1)
abbrev pub segment_of_number : ℕ → Segment
segment_of_number n =
    if n == 0 then Es
    else (if n == 1 then Cs
    else (if n == 2 then Ss
    else (if n == 3 then Ds
    else (if n == 4 then Fs
    else Gs))))

-- the register of a group by its number: one of a class, or the general register of the operand, address or stack size, or the widest of the mode
unfoldable pub register_in : Setting → RegisterGroup → ℕ → Register
register_in s group.Low8 n = Low8 n
register_in s group.High8 n = High8 n
register_in s group.R16 n = R16 n
register_in s group.R32 n = R32 n
register_in s group.R64 n = R64 n
register_in s group.Operand n = register_of_size s.operand n
register_in s group.Address n = register_of_size s.address n
register_in s group.Stack n = register_of_size s.bits n
register_in s group.Wide n = wide s.bits n
register_in s group.Segment n = Seg (segment_of_number n)
register_in s group.Control n = Cr n
register_in s group.X87 n = St n
register_in s group.Xmm n = Xmm n
register_in s group.Ymm n = Ymm n

-- ---- access

-- an access that happens under a condition
abbrev pub conditional : AccessKind → AccessKind
conditional Read = ConditionalRead
conditional Write = ConditionalWrite
conditional ReadWrite = ConditionalReadWrite
conditional ReadConditionalWrite = ConditionalReadWrite
conditional ConditionalRead = ConditionalRead
conditional ConditionalWrite = ConditionalWrite
conditional ConditionalReadWrite = ConditionalReadWrite

-- what is done under a repeat prefix is conditional: a counter of 0 prevents it (REP)
abbrev pub done : Setting → AccessKind → AccessKind
done s access = if s.repeated then conditional access else access
