-- What a node splits by, as a number of the fields.
use Rattle.std.specs.Prelude.{ℕ, ◌==◌, ◌+◌, ◌*◌, ◌/◌, ◌%◌, Option, Some, None}
use Rattle.x86_values.specs.declared.Bits.{Bits}
use Rattle.instruction_parts.specs.Bytes.{bit}
use Rattle.instruction_parts.specs.declared.row_fields.Fields.{Fields}
use Rattle.instruction_parts.specs.RowFields.Holds.{map_number, byte_of, prefix_of}
use Rattle.x86_values.specs.Modes.{size_number}
use Rattle.instruction_parts.specs.RowFields.FieldNumbers.{plain_size}
use Rattle.handler_tables.specs.declared.node.Split.{Split}
use Rattle.handler_tables.specs.declared.node.Split.TheVariants as split

-- how many values it has
abbrev pub width_of : Split → ℕ
width_of split.Kind = 8
width_of split.Opcode = 256
width_of split.Prefix = 4
width_of split.Place = 2
width_of split.Reg = 8
width_of split.Rm = 8
width_of split.Size = 3
width_of split.W = 2
width_of split.L = 2
width_of split.RexB = 2

-- the kind and map, the opcode byte, the prefix that counts (2.1.1), the fields of ModRM (2.1.3), the sizes and the bits of REX and VEX (2.2.1.2, 2.3.5)
abbrev pub field_at : Bits → Split → Fields → ℕ
field_at bits split.Kind f = map_number f.vex f.map
field_at bits split.Opcode f = f.opcode
field_at bits split.Prefix f = prefix_of f.rep f.size66
field_at bits split.Place f = bit (byte_of f.modrm / 64 == 3)
field_at bits split.Reg f = byte_of f.modrm / 8 % 8
field_at bits split.Rm f = byte_of f.modrm % 8
field_at bits split.Size f = size_number (plain_size bits f.size66 f.w)
field_at bits split.W f = bit f.w
field_at bits split.L f = bit f.l
field_at bits split.RexB f = bit f.rex_b

-- the mode's root for fields with a ModRM byte and for those without one
abbrev pub root_of : Bits → Option ℕ → ℕ
root_of bits (Some b) = 2 * size_number bits
root_of bits None = 2 * size_number bits + 1
