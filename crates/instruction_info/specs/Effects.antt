-- The effects of the rows: the tables of constants, and what they say of a code.
use Rattle.std.specs.Prelude.{ℕ, ◌+◌, ◌/◌, ◌==◌, nat_le, Bool, false, ◌&&◌, ◌||◌, if◌then◌else◌, List, Option, Some, None, slice_get, unwrap_or, take, drop}
use Rattle.std.specs.List.{list_any}
use Rattle.x86_values.specs.declared.Instr.{Instr}
use Rattle.x86_values.specs.Operands.{is_memory}
use Rattle.instruction_parts.specs.declared.row_types.Row.{Row}
use Rattle.instruction_parts.specs.declared.row_types.RowKind.{RowKind}
use Rattle.instruction_parts.specs.declared.row_types.RowKind.TheVariants.{Legacy}
use Rattle.instruction_parts.specs.declared.row_types.Map.{Map}
use Rattle.instruction_parts.specs.declared.row_types.Map.TheVariants.{M0f}
use Rattle.opcode_rows.specs.Table.{table}
use Rattle.instruction_info.specs.declared.effect.Effect.{Effect}
use Rattle.instruction_info.specs.declared.effect.NamedMemory.TheVariants.{AsOperand}
use Rattle.instruction_info.specs.declared.effect.ImpliedRegister.{ImpliedRegister}
use Rattle.instruction_info.specs.declared.effect.ImpliedMemory.{ImpliedMemory}
use Rattle.instruction_info.specs.declared.generated_effects.TheConstants.{EFFECT_INDEXES, EFFECTS, IMPLIED_REGISTERS, IMPLIED_MEMORY, REGISTER_COUNT, MEMORY_COUNT}

-- ---- the tables

-- which effect each row has, by code
unfoldable pub indexes : List ℕ
indexes = EFFECT_INDEXES

-- the effects
unfoldable pub effects : List Effect
effects = EFFECTS

-- the implied registers of all effects
unfoldable pub register_list : List ImpliedRegister
register_list = IMPLIED_REGISTERS

-- the implied memory of all effects
unfoldable pub memory_list : List ImpliedMemory
memory_list = IMPLIED_MEMORY

-- the registers and the memory of an effect are few, and lie in their lists
unfoldable pub effect_fits : Effect → Bool
effect_fits e =
    nat_le (e.first_register + e.registers) REGISTER_COUNT
    && (nat_le e.registers 26 && (nat_le (e.first_memory + e.memories) MEMORY_COUNT && nat_le e.memories 3))

-- ---- by code

-- the effect of nothing
abbrev pub no_effect : Effect
no_effect = record {
  read = 0;
  written = 0;
  cleared = 0;
  set = 0;
  undefined = 0;
  kept = 0;
  features = 0;
  register_features = 0;
  first_register = 0;
  registers = 0;
  first_memory = 0;
  memories = 0;
  repeats = false;
  size = 0;
  named = AsOperand;
}

-- the effect of a code, that of nothing where the table has none
unfoldable pub effect_of : ℕ → Effect
effect_of code = unwrap_or (slice_get effects (unwrap_or (slice_get indexes code) 0)) no_effect

-- the flags that decide what is done (the operation of each instruction)
unfoldable pub flags_read : ℕ → ℕ
flags_read code = (effect_of code).read

-- the flags that are given a value (flags affected)
unfoldable pub flags_written : ℕ → ℕ
flags_written code = (effect_of code).written

-- those of them that become 0
unfoldable pub flags_cleared : ℕ → ℕ
flags_cleared code = (effect_of code).cleared

-- those of them that become 1
unfoldable pub flags_set : ℕ → ℕ
flags_set code = (effect_of code).set

-- the flags that are undefined afterwards
unfoldable pub flags_undefined : ℕ → ℕ
flags_undefined code = (effect_of code).undefined

-- the flags that some instructions of the row leave as they were
unfoldable pub flags_kept : ℕ → ℕ
flags_kept code = (effect_of code).kept

-- the CPUID features that are used (the feature flag of the opcode table)
unfoldable pub features_of : ℕ → ℕ
features_of code = (effect_of code).features

-- those that the form without memory uses, of a row that has both forms
unfoldable pub register_features_of : ℕ → ℕ
register_features_of code = (effect_of code).register_features

-- an operand is memory
abbrev pub names_memory : Instr → Bool
names_memory i = list_any is_memory i.ops

-- the features that an instruction uses: those of its form, with memory or without
unfoldable pub used_features : Instr → ℕ
used_features i = if names_memory i then features_of i.code.0 else register_features_of i.code.0

-- the place is kept for hints, 0F 0D and 0F 18 to 0F 1F: a processor without the feature of a hint executes a NOP there (volume 2, A.3: table A-3;
-- ENDBR32, ENDBR64, RDSSP)
abbrev pub is_hint_place : RowKind → Map → ℕ → Bool
is_hint_place Legacy M0f op = op == 0xD || op / 8 == 3
is_hint_place _ _ op = false

-- the same of a row that may be absent
abbrev pub is_hint : Option Row → Bool
is_hint None = false
is_hint (Some row) = is_hint_place row.kind row.map row.opcode

-- the features that an instruction needs: those that it uses, none where it is a NOP without them
unfoldable pub needed_features : Instr → ℕ
needed_features i = if is_hint (slice_get table i.code.0) then 0 else used_features i

-- the registers that an effect implies
abbrev pub registers_in : Effect → List ImpliedRegister
registers_in e = take e.registers (drop e.first_register register_list)

-- the memory that an effect implies
abbrev pub memory_in : Effect → List ImpliedMemory
memory_in e = take e.memories (drop e.first_memory memory_list)

-- the registers that no operand names
unfoldable pub registers_of : ℕ → List ImpliedRegister
registers_of code = registers_in (effect_of code)

-- the memory that no operand names
unfoldable pub implied_memory_of : ℕ → List ImpliedMemory
implied_memory_of code = memory_in (effect_of code)
