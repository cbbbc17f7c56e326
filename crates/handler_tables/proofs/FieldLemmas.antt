-- What a node splits by has as many values as the node has entries.
use Rattle.std.proofs.Common.{◌<◌, Bool, true, false, arith, lit<}
use Rattle.x86_values.specs.declared.Bits.{Bits}
use Rattle.x86_values.specs.declared.Bits.TheVariants.{B16, B32, B64}
use Rattle.x86_values.specs.declared.Rep.{Rep}
use Rattle.x86_values.specs.declared.Rep.TheVariants as rep
use Rattle.instruction_parts.specs.Bytes.{bit}
use Rattle.instruction_parts.specs.declared.row_fields.Fields.{Fields}
use Rattle.instruction_parts.specs.RowFields.Holds.{prefix_of}
use Rattle.x86_values.specs.Modes.{size_number}
use Rattle.instruction_parts.specs.RowFields.FieldNumbers.{plain_size}
use Rattle.instruction_parts.proofs.RowFields.Apart.{map_number-lt}
use Rattle.handler_tables.specs.declared.node.Split.{Split}
use Rattle.handler_tables.specs.declared.node.Split.TheVariants as split
use Rattle.handler_tables.specs.Splits.{width_of, field_at}

bit-lt : (b : Bool) → bit b < 2
bit-lt true = lit< tt
bit-lt false = lit< tt

prefix_of-lt : (r : Rep) (b : Bool) → prefix_of r b < 4
prefix_of-lt rep.F3 b = lit< tt
prefix_of-lt rep.F2 b = lit< tt
prefix_of-lt rep.None true = lit< tt
prefix_of-lt rep.None false = lit< tt

size_number-lt : (bits : Bits) → size_number bits < 3
unfolding size_number
size_number-lt B16 = lit< tt
size_number-lt B32 = lit< tt
size_number-lt B64 = lit< tt

-- what a node splits by is below its number of values
pub field_at-lt : (bits : Bits) (s : Split) (f : Fields) → f.opcode < 256 → field_at bits s f < width_of s
field_at-lt bits split.Kind f lt = map_number-lt f.vex f.map
field_at-lt bits split.Opcode f lt = lt
field_at-lt bits split.Prefix f lt = prefix_of-lt f.rep f.size66
field_at-lt bits split.Place f lt = bit-lt _
field_at-lt bits split.Reg f lt = omega arith
field_at-lt bits split.Rm f lt = omega arith
field_at-lt bits split.Size f lt = size_number-lt (plain_size bits f.size66 f.w)
field_at-lt bits split.W f lt = bit-lt f.w
field_at-lt bits split.L f lt = bit-lt f.l
field_at-lt bits split.RexB f lt = bit-lt f.rex_b
