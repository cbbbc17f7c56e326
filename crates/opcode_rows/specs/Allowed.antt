-- When an instruction has the form of its row.
use Rattle.std.specs.Prelude.{ℕ, Bool, true, false, ◌&&◌, Option, Some, None, slice_get}
use Rattle.x86_values.specs.declared.Instr.{Instr}
use Rattle.x86_values.specs.declared.Operand.{Operand}
use Rattle.x86_values.specs.declared.Operand.TheVariants.{Reg, Mem as Memory}
unfoldable pub use Rattle.x86_values.specs.Named.{is_named, is_named_if}
use Rattle.instruction_parts.specs.declared.row_types.Row.{Row}
use Rattle.instruction_parts.specs.Kinds.{method_of}
use Rattle.row_fit.specs.Fits.{kind_at}
use Rattle.plain_spelling.specs.Forms.{is_variant_of, is_scale, operand_at}
use Rattle.opcode_rows.specs.Table.{table}

-- ---- numbers

-- the scale of a memory operand is one, and the registers of the operand have numbers of their class
unfoldable pub has_numbers : Operand → Bool
has_numbers (Reg r) = is_named r
has_numbers (Memory m) = is_scale m.scale && (is_named_if m.base && is_named_if m.index)
has_numbers _ = true

-- ---- the instruction

-- operand n has the form that the row asks for
unfoldable pub operand_is_formed : Row → Instr → ℕ → Bool
operand_is_formed row i n =
    is_variant_of row.place (method_of (kind_at row n)) (operand_at i n) && has_numbers (operand_at i n)

-- the four operands have it
unfoldable pub is_formed : Row → Instr → Bool
is_formed row i =
    operand_is_formed row i 0 && (operand_is_formed row i 1 && (operand_is_formed row i 2 && operand_is_formed row i 3))

-- the four operands have the form that a row asks for; none has where there is no row
abbrev pub is_formed_by : Option Row → Instr → Bool
is_formed_by None i = false
is_formed_by (Some row) i = is_formed row i

-- the code is one of the table, and the operands have the form of its row
unfoldable pub is_well_formed : Instr → Bool
is_well_formed i = is_formed_by (slice_get table i.code.0) i
