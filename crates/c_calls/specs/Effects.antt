-- What an instruction touches, as the flat struct of the C interface.
use Rattle.std.specs.Prelude.{ℕ, ◌+◌, ◌*◌, ℤ, pos, List, [], ◌∷◌, map, length, slice_get, codes, Option, Some, None, Result, Ok, Err, if◌then◌else◌}
use Rattle.std.specs.List.{range_with_len}
use Rattle.x86_values.specs.declared.Bits.{Bits}
use Rattle.x86_values.specs.declared.Register.{Register}
use Rattle.x86_values.specs.declared.Instr.{Instr}
use Rattle.x86_values.specs.Registers.{number}
use Rattle.x86_values.specs.Named.{is_named}
use Rattle.opcode_rows.specs.Allowed.{is_well_formed}
use Rattle.instruction_info.specs.declared.effect.AccessKind.{AccessKind}
use Rattle.instruction_info.specs.declared.effect.AccessKind.TheVariants.{Read, Write, ReadWrite, ConditionalRead, ConditionalWrite, ConditionalReadWrite, ReadConditionalWrite}
use Rattle.instruction_info.specs.declared.registers.RegisterUse.{RegisterUse}
use Rattle.instruction_info.specs.declared.memory.MemoryUse.{MemoryUse}
use Rattle.instruction_info.specs.Effects.{flags_read, flags_written, flags_cleared, flags_set, flags_undefined, flags_kept, needed_features}
use Rattle.instruction_info.specs.Memory.{all_memory}
use Rattle.instruction_info.specs.Registers.{all_registers, full_register}
use Rattle.c_calls.specs.declared.refusal.Refusal.{Refusal}
use Rattle.c_calls.specs.declared.refusal.Refusal.TheVariants.{Mode, Instr as NoInstr, Form, Name, Register as NoRegister}
use Rattle.c_calls.specs.declared.flat.FlatUse.{FlatUse}
use Rattle.c_calls.specs.declared.flat.FlatMemoryUse.{FlatMemoryUse}
use Rattle.c_calls.specs.declared.flat.FlatTouched.{FlatTouched}
use Rattle.c_calls.specs.Refusals.{refusal_status}
use Rattle.c_calls.specs.Numbers.{class_number, prefix_number, register_numbered}
use Rattle.c_calls.specs.Flat.{base_class, base_number}

-- ---- uses

-- what is done, in bits: 1 read, 2 written, 4 read under a condition, 8 written under a condition
abbrev pub access_kind_number : AccessKind → ℕ
access_kind_number Read = 1
access_kind_number Write = 2
access_kind_number ReadWrite = 3
access_kind_number ConditionalRead = 4
access_kind_number ConditionalWrite = 8
access_kind_number ConditionalReadWrite = 12
access_kind_number ReadConditionalWrite = 9

-- a register with what is done to it, zeros where there is none
abbrev pub flat_register : Option RegisterUse → FlatUse
flat_register None = record { reg_class = 0; reg_number = 0; access = 0 }
flat_register (Some u) = record { reg_class = class_number u.reg; reg_number = number u.reg; access = access_kind_number u.access }

-- register n of some
unfoldable pub register_at : List RegisterUse → ℕ → FlatUse
register_at us n = flat_register (slice_get us n)

-- the 32 places of registers
abbrev pub register_places : List RegisterUse → List FlatUse
register_places us = map (register_at us) (range_with_len 0 32)

-- memory with what is done there, zeros where there is none
abbrev pub flat_memory_use : Option MemoryUse → FlatMemoryUse
flat_memory_use None = record {
  displacement = 0;
  size = 0;
  segment = 0;
  base_class = 0;
  base_number = 0;
  index_class = 0;
  index_number = 0;
  scale = 0;
  access = 0;
}
flat_memory_use (Some m) = record {
  displacement = m.disp;
  size = m.size;
  segment = prefix_number (Some m.segment);
  base_class = base_class m.base;
  base_number = base_number m.base;
  index_class = base_class m.index;
  index_number = base_number m.index;
  scale = m.scale;
  access = access_kind_number m.access;
}

-- memory n of some
unfoldable pub memory_at : List MemoryUse → ℕ → FlatMemoryUse
memory_at ms n = flat_memory_use (slice_get ms n)

-- ---- instructions

-- what an instruction touches in a mode: its registers and memory, named and implied, its flags and its features
unfoldable pub effects_of : Bits → Instr → FlatTouched
effects_of bits i =
    let us = all_registers bits i in
    let ms = all_memory bits i in
    let code = i.code.0 in
    record {
      features = needed_features i;
      flags_read = flags_read code;
      flags_written = flags_written code;
      flags_cleared = flags_cleared code;
      flags_set = flags_set code;
      flags_undefined = flags_undefined code;
      flags_kept = flags_kept code;
      memory = memory_at ms 0 ∷ memory_at ms 1 ∷ memory_at ms 2 ∷ memory_at ms 3 ∷ [];
      registers = register_places us;
      memory_count = length ms;
      register_count = length us;
    }

-- what an instruction touches, where there are a mode and an instruction, of the form that its row asks for
unfoldable pub touched_of : Option Bits → Option Instr → Result FlatTouched Refusal
touched_of None i = Err Mode
touched_of (Some bits) None = Err NoInstr
touched_of (Some bits) (Some i) = if is_well_formed i then Ok (effects_of bits i) else Err Form

-- what is said of an instruction
abbrev pub touched_said : Result FlatTouched Refusal → ℤ
touched_said (Ok told) = pos 0
touched_said (Err why) = refusal_status why

-- what the struct has then: it is unchanged after a refusal
abbrev pub touched_left : FlatTouched → Result FlatTouched Refusal → FlatTouched
touched_left old (Ok told) = told
touched_left old (Err why) = old

-- ---- registers

-- a register by one number: 256 times its class, and its number in that
abbrev pub register_code : Register → ℕ
register_code r = 256 * class_number r + number r

-- the widest register that holds a register, or that there is no such register
abbrev pub full_said : Option Register → ℤ
full_said None = refusal_status NoRegister
full_said (Some r) = if is_named r then pos (register_code (full_register r)) else refusal_status NoRegister

-- the code of the widest register that holds the register of a class and a number, or that there is none
abbrev pub full_answer : ℕ → ℕ → ℤ
full_answer class n = full_said (register_numbered class n)

-- ---- features

-- the names of the CPUID features, by their bits from 0 on (CPUID)
abbrev pub feature_names : List (List ℕ)
feature_names =
    codes "FPU" ∷ codes "TSC" ∷ codes "MSR" ∷ codes "CX8" ∷ codes "SEP" ∷ codes "CMOV" ∷ codes "CLFSH" ∷ codes "MMX" ∷ codes "FXSR" ∷ codes "SSE" ∷
    codes "SSE2" ∷ codes "SSE3" ∷ codes "PCLMULQDQ" ∷ codes "MONITOR" ∷ codes "SSSE3" ∷ codes "FMA" ∷ codes "CX16" ∷ codes "SSE41" ∷ codes "SSE42" ∷
    codes "MOVBE" ∷ codes "POPCNT" ∷ codes "AES" ∷ codes "XSAVE" ∷ codes "AVX" ∷ codes "F16C" ∷ codes "RDRAND" ∷ codes "FSGSBASE" ∷ codes "BMI1" ∷
    codes "AVX2" ∷ codes "BMI2" ∷ codes "RDSEED" ∷ codes "ADX" ∷ codes "SMAP" ∷ codes "CLFLUSHOPT" ∷ codes "CET_SS" ∷ codes "CET_IBT" ∷
    codes "XSAVEOPT" ∷ codes "LZCNT" ∷ codes "PREFETCHW" ∷ codes "SYSCALL" ∷ codes "RDTSCP" ∷ []

-- the name of a feature that may be none
abbrev pub feature_in : Option (List ℕ) → Result (List ℕ) Refusal
feature_in None = Err Name
feature_in (Some name) = Ok name

-- the name of the feature of a bit
unfoldable pub feature_answer : ℕ → Result (List ℕ) Refusal
feature_answer n = feature_in (slice_get feature_names n)
