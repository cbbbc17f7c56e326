-- No row has two operands that can be memory or a near target; so the operand that is told fails its condition.
use Rattle.std.proofs.Common.{◌≡◌, ℕ, true, List, Option, Some, None, Err, slice_get, refl, ◌∙◌}
use Rattle.std.specs.Prelude.{IsTrue}
use Rattle.x86_values.specs.declared.Bits.{Bits}
use Rattle.x86_values.specs.declared.Instr.{Instr}
use Rattle.x86_values.specs.Wrapping.{modulo_width}
use Rattle.instruction_parts.specs.declared.row_types.Row.{Row}
use Rattle.instruction_parts.specs.Kinds.{method_of}
use Rattle.plain_spelling.specs.declared.NoSpelling.{NoSpelling}
use Rattle.plain_spelling.specs.Expressible.{failure}
use Rattle.opcode_rows.specs.Parts.{integer_rows, integer_flat, x87_rows, x87_flat, sse_rows, sse_flat, vex_rows, vex_flat}
use Rattle.opcode_rows.specs.declared.spot.Part.{Part}
use Rattle.opcode_rows.specs.declared.spot.Part.TheVariants as part
use Rattle.opcode_rows.specs.Table.{part_table, table}
use Rattle.opcode_rows.proofs.JoinFacts.{all_rows, in_each_part}
use Rattle.encoder.specs.Encoding.{encoding, encoded_by}
use Rattle.encoder.proofs.Causes.{by_row}
use Rattle.c_calls.specs.Failing.{may_be_target, has_one_target, IsFailing}
use Rattle.c_calls.proofs.Failing.{failing-is}

each-one : (p : Part) → all_rows has_one_target (part_table p) ≡ true
unfolding all_rows has_one_target may_be_target method_of integer_rows integer_flat x87_rows x87_flat sse_rows sse_flat vex_rows vex_flat
each-one part.Integer = refl
each-one part.X87 = refl
each-one part.Sse = refl
each-one part.Vex = refl

one-row : (code : ℕ) (row : Row) → slice_get table code ≡ Some row → IsTrue (has_one_target row)
one-row code row at = in_each_part has_one_target each-one code row at

-- a refusal is the first condition that fails
refused-by : (o : Option NoSpelling) (bytes : List ℕ) (w : NoSpelling) → encoded_by o bytes ≡ Err w → o ≡ Some w
refused-by None bytes w h = cc
refused-by (Some x) bytes w h = cc

-- the reported operand of a refused instruction fails the reported condition
pub told-fails : (bits : Bits) (ip : ℕ) (row : Row) (i : Instr) (w : NoSpelling) → slice_get table i.code.0 ≡ Some row → encoding bits ip i ≡ Err w
    → IsFailing bits (modulo_width bits ip) row i w
told-fails bits ip row i w at h =
    failing-is bits (modulo_width bits ip) row i w (one-row i.code.0 row at)
    (refused-by (failure bits (modulo_width bits ip) row i) _ w (by_row bits ip row i at ∙ h))
