-- Where an instruction is well formed, by its code.
use Rattle.std.proofs.Common.{◌≡◌, ◌<◌, ◌≤◌, true, false, Option, None, slice_get, arith, ap, refl}
use Rattle.std.specs.Prelude.{Some, IsTrue}
use Rattle.std.proofs.lemmas.Option.{slice_get_past, slice_get_within}
use Rattle.x86_values.specs.declared.Instr.{Instr}
use Rattle.instruction_parts.specs.declared.row_types.Row.{Row}
use Rattle.opcode_rows.specs.declared.generated_spots.TheConstants.{ROWS}
use Rattle.opcode_rows.specs.Table.{table}
use Rattle.opcode_rows.specs.Allowed.{is_formed, is_formed_by, is_well_formed}
use Rattle.opcode_rows.proofs.JoinFacts.{length-table}

-- an instruction of a row of the table is well formed if its operands are of the kinds of that row
pub well_formed-at : (i : Instr) (row : Row) → slice_get table i.code.0 ≡ Some row → is_well_formed i ≡ is_formed row i
unfolding is_well_formed
well_formed-at i row at = ap (λ o. is_formed_by o i) at

-- a code past the table is not well formed
pub well_formed-past : (i : Instr) → ROWS ≤ i.code.0 → is_well_formed i ≡ false
unfolding is_well_formed
well_formed-past i le = ap (λ o. is_formed_by o i) (slice_get_past table i.code.0 (omega (arith, le, length-table)))

row_there : (o : Option Row) (i : Instr) → is_formed_by o i ≡ true → (row : Row) × (o ≡ Some row)
row_there None i h = cc
row_there (Some row) i h = (row, refl)

-- the code of a well-formed instruction is below the number of rows
pub code_in_table : (i : Instr) → IsTrue (is_well_formed i) → i.code.0 < ROWS
unfolding is_well_formed
code_in_table i h =
    let t = row_there (slice_get table i.code.0) i h in omega (arith, slice_get_within table i.code.0 t.0 t.1, length-table)
