-- Which variant of an operand a row asks for (Intel SDM volume 2, A.2.1).
use Rattle.std.specs.Prelude.{ℕ, Bool, true, false, ◌||◌, ◌==◌, slice_index_or}
use Rattle.x86_values.specs.declared.Instr.{Instr}
use Rattle.x86_values.specs.declared.Operand.{Operand}
use Rattle.x86_values.specs.declared.Operand.TheVariants.{Absent, Reg, Mem as Memory, Imm, Near, Far}
use Rattle.x86_values.specs.Operands.{is_absent, is_memory}
use Rattle.instruction_parts.specs.declared.row_types.Place.{Place}
use Rattle.instruction_parts.specs.declared.row_types.Place.TheVariants.{Any as AnyPlace, Memory as OnlyMemory, Register as OnlyRegister}
use Rattle.instruction_parts.specs.declared.kinds.Method.{Method}
use Rattle.instruction_parts.specs.declared.kinds.Method.TheVariants as method

-- the operand is a register
abbrev pub is_register : Operand → Bool
is_register (Reg _) = true
is_register _ = false

-- the operand is an immediate
abbrev pub is_immediate : Operand → Bool
is_immediate (Imm _) = true
is_immediate _ = false

-- the operand is a near target
abbrev pub is_near_kind : Operand → Bool
is_near_kind (Near _) = true
is_near_kind _ = false

-- the operand is a far pointer
abbrev pub is_far : Operand → Bool
is_far (Far _ _) = true
is_far _ = false

-- register or memory, as far as the row does not limit it
unfoldable pub is_allowed_in : Place → Operand → Bool
is_allowed_in AnyPlace x = is_register x || is_memory x
is_allowed_in OnlyMemory x = is_memory x
is_allowed_in OnlyRegister x = is_register x

-- the operand has a variant that its kind allows: a register, memory, either, an immediate, a near or far target, or nothing
unfoldable pub is_variant_of : Place → Method → Operand → Bool
is_variant_of place method.Nothing x = is_absent x
is_variant_of place method.RegisterOrMemory x = is_allowed_in place x
is_variant_of place method.MemoryOnly x = is_memory x
is_variant_of place method.Gather x = is_memory x
is_variant_of place method.Offset x = is_memory x
is_variant_of place method.AsWritten x = is_immediate x
is_variant_of place method.Extended x = is_immediate x
is_variant_of place method.One x = is_immediate x
is_variant_of place method.Near x = is_near_kind x
is_variant_of place method.Pointer x = is_far x
is_variant_of place _ x = is_register x

-- a scale of a SIB (2.1.5, table 2-3)
abbrev pub is_scale : ℕ → Bool
is_scale n = n == 1 || n == 2 || n == 4 || n == 8

-- operand n
abbrev pub operand_at : Instr → ℕ → Operand
operand_at i n = slice_index_or i.ops n Absent
