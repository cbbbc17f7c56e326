-- The opcode bytes of every row are taken as opcode bytes.
use Rattle.std.proofs.Common.{◌≡◌, ℕ, Bool, true, ◌&&◌, refl, slice_get}
use Rattle.std.proofs.lemmas.Bool.{and_parts}
use Rattle.std.specs.Prelude.{Some, IsTrue}
use Rattle.x86_values.specs.declared.Bits.{Bits}
use Rattle.x86_values.specs.declared.Bits.TheVariants.{B16, B32, B64}
use Rattle.instruction_parts.specs.declared.row_types.Row.{Row}
use Rattle.instruction_parts.specs.Counting.{is_segment, is_legacy_prefix, is_prefix}
use Rattle.instruction_parts.specs.Sizes.{exists_in}
use Rattle.row_fit.specs.Fits.{is_opcode}
use Rattle.opcode_rows.specs.Parts.{integer_rows, integer_flat, x87_rows, x87_flat, sse_rows, sse_flat, vex_rows, vex_flat}
use Rattle.opcode_rows.specs.Kept.{opcodes_are_kept}
use Rattle.opcode_rows.specs.declared.spot.Part.{Part}
use Rattle.opcode_rows.specs.declared.spot.Part.TheVariants as part
use Rattle.opcode_rows.specs.Table.{part_table, table}
use Rattle.opcode_rows.proofs.JoinFacts.{all_rows, in_each_part}

unfoldable kept : Row → Bool
kept row = opcodes_are_kept B16 row && (opcodes_are_kept B32 row && opcodes_are_kept B64 row)

each-kept : (p : Part) → all_rows kept (part_table p) ≡ true
unfolding all_rows kept opcodes_are_kept is_opcode exists_in is_segment is_legacy_prefix is_prefix integer_rows integer_flat x87_rows x87_flat sse_rows sse_flat vex_rows vex_flat
each-kept part.Integer = refl
each-kept part.X87 = refl
each-kept part.Sse = refl
each-kept part.Vex = refl

in_mode : (bits : Bits) (row : Row) → kept row ≡ true → IsTrue (opcodes_are_kept bits row)
unfolding kept
in_mode B16 row h = (and_parts (opcodes_are_kept B16 row) (opcodes_are_kept B32 row && opcodes_are_kept B64 row) h).0
in_mode B32 row h =
    (and_parts (opcodes_are_kept B32 row) (opcodes_are_kept B64 row)
    (and_parts (opcodes_are_kept B16 row) (opcodes_are_kept B32 row && opcodes_are_kept B64 row) h).1).0
in_mode B64 row h =
    (and_parts (opcodes_are_kept B32 row) (opcodes_are_kept B64 row)
    (and_parts (opcodes_are_kept B16 row) (opcodes_are_kept B32 row && opcodes_are_kept B64 row) h).1).1

-- the opcode bytes of a legacy row are no prefix, no escape byte and, in 64-bit mode, not 62
pub kept-row : (bits : Bits) (code : ℕ) (row : Row) → slice_get table code ≡ Some row → IsTrue (opcodes_are_kept bits row)
kept-row bits code row at = in_mode bits row (in_each_part kept each-kept code row at)
