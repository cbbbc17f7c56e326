-- The memory that an instruction touches.
use Rattle.std.specs.Prelude.{ℕ, ◌-◌, ◌*◌, ◌^◌, ◌==◌, ◌||◌, Bool, if◌then◌else◌, List, [], ◌∷◌, ◌++◌, Option, Some, None}
use Rattle.std.specs.Option.{option_or}
use Rattle.x86_values.specs.declared.Bits.{Bits}
use Rattle.x86_values.specs.declared.Bits.TheVariants.{B16, B32, B64}
use Rattle.x86_values.specs.declared.Segment.{Segment}
use Rattle.x86_values.specs.declared.Segment.TheVariants.{Es, Ss, Ds, Fs, Gs}
use Rattle.x86_values.specs.declared.Register.{Register}
use Rattle.x86_values.specs.declared.Register.TheVariants.{Low8, R16, R32, R64}
use Rattle.x86_values.specs.declared.Mem.{Mem}
use Rattle.x86_values.specs.declared.Operand.{Operand}
use Rattle.x86_values.specs.declared.Operand.TheVariants.{Mem as Memory}
use Rattle.x86_values.specs.declared.Instr.{Instr}
use Rattle.x86_values.specs.Wrapping.{modulo_width}
use Rattle.instruction_parts.specs.Sizes.{size_bytes}
use Rattle.plain_spelling.specs.Forms.{operand_at}
use Rattle.operand_info.specs.declared.columns.Access.{Access}
use Rattle.operand_info.specs.declared.columns.Access.TheVariants as operand
use Rattle.operand_info.specs.ByCode.{access_of, memory_size}
use Rattle.instruction_info.specs.declared.effect.AccessKind.{AccessKind}
use Rattle.instruction_info.specs.declared.effect.AccessKind.TheVariants.{Read, Write, ReadWrite, ConditionalRead, ConditionalWrite}
use Rattle.instruction_info.specs.declared.effect.NamedMemory.{NamedMemory}
use Rattle.instruction_info.specs.declared.effect.NamedMemory.TheVariants as named
use Rattle.instruction_info.specs.declared.effect.SegmentRule.{SegmentRule}
use Rattle.instruction_info.specs.declared.effect.SegmentRule.TheVariants as rule
use Rattle.instruction_info.specs.declared.effect.ImpliedMemory.{ImpliedMemory}
use Rattle.instruction_info.specs.declared.memory.MemoryUse.{MemoryUse}
use Rattle.instruction_info.specs.declared.setting.Setting.{Setting}
use Rattle.instruction_info.specs.Effects.{effect_of, implied_memory_of}
use Rattle.instruction_info.specs.Settings.{setting_of, register_in, done}

-- ---- segments

-- the segment of an address by its default: in 64-bit mode FS and GS alone are taken from a prefix (volume 1, 3.7.4.1; volume 2, 2.1.1)
abbrev pub segment_by_default : Bits → Segment → Segment → Segment
segment_by_default bits Fs default = Fs
segment_by_default bits Gs default = Gs
segment_by_default B64 _ default = default
segment_by_default B16 segment default = segment
segment_by_default B32 segment default = segment

-- the segment of an address: the default one where no prefix names another
abbrev pub segment_by_prefix : Option Segment → Bits → Segment → Segment
segment_by_prefix None bits default = default
segment_by_prefix (Some segment) bits default = segment_by_default bits segment default

-- the segment of an address in a setting
abbrev pub segment_with : Setting → Segment → Segment
segment_with s default = segment_by_prefix s.seg s.bits default

-- the number is that of rSP or rBP
abbrev pub is_stack_number : ℕ → Bool
is_stack_number n = n == 4 || n == 5

-- SS for a base of rSP or rBP, else DS (volume 1, 3.7.4)
abbrev pub segment_of_base : Register → Segment
segment_of_base (R16 n) = if is_stack_number n then Ss else Ds
segment_of_base (R32 n) = if is_stack_number n then Ss else Ds
segment_of_base (R64 n) = if is_stack_number n then Ss else Ds
segment_of_base _ = Ds

-- SS for an address whose base is rSP or rBP, else DS; an address without a base is in DS
abbrev pub default_segment : Option Register → Segment
default_segment None = Ds
default_segment (Some r) = segment_of_base r

-- ---- the memory operand

-- what the columns say of an operand
abbrev pub column_access : Access → Option AccessKind
column_access operand.None = None
column_access operand.Read = Some Read
column_access operand.Write = Some Write
column_access operand.ReadWrite = Some ReadWrite

-- what is done to the memory operand: a write alone where the columns speak of a register form too, conditional where a mask chooses its elements,
-- else what the columns say
abbrev pub named_access : NamedMemory → Access → Option AccessKind
named_access named.AsOperand access = column_access access
named_access named.Write access = Some Write
named_access named.ConditionalRead access = Some ConditionalRead
named_access named.ConditionalWrite access = Some ConditionalWrite

-- its bytes: the column, or what the effect says where the column has none
abbrev pub named_memory_size : ℕ → ℕ
named_memory_size code = if (effect_of code).size == 0 then memory_size code else (effect_of code).size

-- its use
abbrev pub operand_memory : Setting → ℕ → Mem → AccessKind → MemoryUse
operand_memory s code m access = record {
  segment = segment_with s (default_segment m.base);
  base = m.base;
  index = m.index;
  scale = m.scale;
  disp = m.disp;
  size = named_memory_size code;
  access = access;
}

-- the use of a memory operand with its access, if something is done to it
abbrev pub used_if : Setting → ℕ → Mem → Option AccessKind → Option MemoryUse
used_if s code m None = None
used_if s code m (Some access) = Some (operand_memory s code m access)

-- the use of an operand with its access, if it is memory to which something is done
abbrev pub operand_memory_use : Setting → ℕ → Operand → Access → Option MemoryUse
operand_memory_use s code (Memory m) access = used_if s code m (named_access (effect_of code).named access)
operand_memory_use s code _ access = None

-- the use of operand n
unfoldable pub named_at : Setting → Instr → ℕ → Option MemoryUse
named_at s i n = operand_memory_use s i.code.0 (operand_at i n) (access_of i.code.0 n)

-- the use of the first operand that is memory to which something is done
abbrev pub named_memory : Setting → Instr → Option MemoryUse
named_memory s i = option_or (named_at s i 0) (option_or (named_at s i 1) (option_or (named_at s i 2) (named_at s i 3)))

-- one or none
abbrev pub use_list : Option MemoryUse → List MemoryUse
use_list None = []
use_list (Some m) = m ∷ []

-- the uses of the memory operand
abbrev pub named_uses : Setting → Instr → List MemoryUse
named_uses s i = use_list (named_memory s i)

-- ---- implied memory

-- the units in a mode
abbrev pub count_in : Bits → ImpliedMemory → ℕ
count_in B64 m = m.count64
count_in _ m = m.count

-- the bytes of a unit
abbrev pub unit_bytes : Setting → ImpliedMemory → ℕ
unit_bytes s m = if m.unit == 0 then size_bytes s.operand else m.unit

-- the bytes in all
abbrev pub implied_size : Setting → ImpliedMemory → ℕ
implied_size s m = count_in s.bits m * unit_bytes s m

-- the segment by its rule
abbrev pub implied_segment : Setting → SegmentRule → Segment
implied_segment s rule.Data = segment_with s Ds
implied_segment s rule.Extra = Es
implied_segment s rule.Stack = Ss

-- the use: at the base, or below it what is pushed
unfoldable pub implied_use : Setting → ImpliedMemory → MemoryUse
implied_use s m = record {
  segment = implied_segment s m.segment;
  base = Some (register_in s m.group m.number);
  index = if m.al then Some (Low8 0) else None;
  scale = 1;
  disp = if m.below then modulo_width s.bits (2 ^ 64 - implied_size s m) else 0;
  size = implied_size s m;
  access = done s m.access;
}

-- the uses of some implied memory
unfoldable pub implied_uses : Setting → List ImpliedMemory → List MemoryUse
implied_uses s [] = []
implied_uses s (m ∷ ms) = implied_use s m ∷ implied_uses s ms

-- ---- all of it

-- the memory operand, then what is implied
unfoldable pub all_memory : Bits → Instr → List MemoryUse
all_memory bits i = named_uses (setting_of bits i) i ++ implied_uses (setting_of bits i) (implied_memory_of i.code.0)
