-- At most one operand of a well-formed instruction is memory or a far pointer.
use Rattle.std.proofs.Common.{◌≡◌, ℕ, ◌+◌, ◌≤◌, ◌<◌, Bool, true, Option, Some, None, refl, slice_get, arith}
use Rattle.std.specs.Prelude.{if◌then◌else◌, IsTrue, nat_le}
use Rattle.std.proofs.lemmas.Bool.{leb-true, le-leb, and_parts}
use Rattle.std.proofs.lemmas.Option.{slice_get_within}
use Rattle.x86_values.specs.declared.Instr.{Instr}
use Rattle.x86_values.specs.declared.Operand.{Operand}
use Rattle.x86_values.specs.declared.Operand.TheVariants.{Absent, Reg, Mem as Memory, Imm, Near, Far}
use Rattle.instruction_parts.specs.declared.row_types.Row.{Row}
use Rattle.instruction_parts.specs.declared.row_types.Place.{Place}
use Rattle.instruction_parts.specs.declared.kinds.Method.{Method}
use Rattle.instruction_parts.specs.declared.kinds.Method.TheVariants as method
use Rattle.instruction_parts.specs.Kinds.{method_of}
use Rattle.row_fit.specs.Fits.{kind_at}
use Rattle.opcode_rows.specs.Parts.{integer_rows, integer_flat, x87_rows, x87_flat, sse_rows, sse_flat, vex_rows, vex_flat}
use Rattle.opcode_rows.specs.declared.spot.Part.{Part}
use Rattle.opcode_rows.specs.declared.spot.Part.TheVariants as part
use Rattle.opcode_rows.specs.declared.generated_spots.TheConstants.{ROWS}
use Rattle.opcode_rows.specs.Table.{part_table, table}
use Rattle.plain_spelling.specs.Forms.{is_variant_of, operand_at}
use Rattle.opcode_rows.specs.Allowed.{has_numbers, operand_is_formed, is_formed, is_formed_by, is_well_formed}
use Rattle.opcode_rows.proofs.JoinFacts.{all_rows, in_each_part, length-table}
use Rattle.text_parts.specs.Layout.{is_long, long_at, has_one_long}

-- ---- the row of a well-formed instruction

-- a row that is there, and whose form the operands have
row_there : (o : Option Row) (i : Instr) → is_formed_by o i ≡ true → (row : Row) × (o ≡ Some row) × (is_formed row i ≡ true)
row_there None i h = cc
row_there (Some row) i h = (row, refl, h)

-- the table has the row, and the operands have its form
pub formed_row : (i : Instr) → IsTrue (is_well_formed i) → (row : Row) × (slice_get table i.code.0 ≡ Some row) × (is_formed row i ≡ true)
unfolding is_well_formed
formed_row i h = row_there (slice_get table i.code.0) i h

-- the code of a well-formed instruction is below the number of rows
pub code_in_table : (i : Instr) → IsTrue (is_well_formed i) → i.code.0 < ROWS
code_in_table i h =
    let f = formed_row i h in omega (arith, slice_get_within table i.code.0 f.0 f.1, length-table)

-- ---- kinds that may be long

-- 1 where an operand is long
abbrev weight : Operand → ℕ
weight op = if is_long op then 1 else 0

-- 1 where an operand that is read so may be long
abbrev most : Method → ℕ
most method.RegisterOrMemory = 1
most method.MemoryOnly = 1
most method.Gather = 1
most method.Offset = 1
most method.Pointer = 1
most _ = 0

weight-le : (op : Operand) → weight op ≤ 1
unfolding is_long
weight-le Absent = omega arith
weight-le (Reg r) = omega arith
weight-le (Imm x) = omega arith
weight-le (Near x) = omega arith
weight-le (Far s o) = omega arith
weight-le (Memory m) = omega arith

variant-short : (place : Place) (m : Method) (op : Operand) → is_variant_of place m op ≡ true → weight op ≤ most m
unfolding is_variant_of is_long
variant-short place method.RegisterOrMemory op h = weight-le op
variant-short place method.MemoryOnly op h = weight-le op
variant-short place method.Gather op h = weight-le op
variant-short place method.Offset op h = weight-le op
variant-short place method.Pointer op h = weight-le op
variant-short place m Absent h = omega arith
variant-short place m (Reg r) h = omega arith
variant-short place m (Imm x) h = omega arith
variant-short place m (Near x) h = omega arith
variant-short place m (Far s o) h = cc
variant-short place m (Memory x) h = cc

-- at most one operand of the row may be long
unfoldable may_have_one_long : Row → Bool
may_have_one_long row =
    nat_le (most (method_of (kind_at row 0)) + (most (method_of (kind_at row 1))
    + (most (method_of (kind_at row 2)) + most (method_of (kind_at row 3))))) 1

each-one : (p : Part) → all_rows may_have_one_long (part_table p) ≡ true
unfolding all_rows may_have_one_long method_of integer_rows integer_flat x87_rows x87_flat sse_rows sse_flat vex_rows vex_flat
each-one part.Integer = refl
each-one part.X87 = refl
each-one part.Sse = refl
each-one part.Vex = refl

few-kinds : (code : ℕ) (row : Row) → slice_get table code ≡ Some row → most (method_of (kind_at row 0)) + (most (method_of (kind_at row 1)) + (most (method_of (kind_at row 2)) + most (method_of (kind_at row 3)))) ≤ 1
unfolding may_have_one_long
few-kinds code row at = leb-true _ 1 (in_each_part may_have_one_long each-one code row at)

-- ---- operands

operand-short : (row : Row) (i : Instr) (n : ℕ) → operand_is_formed row i n ≡ true → long_at i n ≤ most (method_of (kind_at row n))
unfolding operand_is_formed
operand-short row i n h =
    variant-short row.place (method_of (kind_at row n)) (operand_at i n)
    (and_parts (is_variant_of row.place (method_of (kind_at row n)) (operand_at i n)) (has_numbers (operand_at i n)) h).0

formed-one : (row : Row) (i : Instr) → is_formed row i ≡ true → most (method_of (kind_at row 0)) + (most (method_of (kind_at row 1)) + (most (method_of (kind_at row 2)) + most (method_of (kind_at row 3)))) ≤ 1 → IsTrue (has_one_long i)
unfolding is_formed has_one_long
formed-one row i h few =
    let rest = (and_parts (operand_is_formed row i 0) _ h).1 in
    let rest' = (and_parts (operand_is_formed row i 1) _ rest).1 in
    let b0 = operand-short row i 0 (and_parts (operand_is_formed row i 0) _ h).0 in
    let b1 = operand-short row i 1 (and_parts (operand_is_formed row i 1) _ rest).0 in
    let b2 = operand-short row i 2 (and_parts (operand_is_formed row i 2) _ rest').0 in
    let b3 = operand-short row i 3 (and_parts (operand_is_formed row i 2) _ rest').1 in
    le-leb _ 1 (omega (arith, few, b0, b1, b2, b3))

-- a well-formed instruction has at most one operand that is memory or a far pointer
pub one_long : (i : Instr) → IsTrue (is_well_formed i) → IsTrue (has_one_long i)
one_long i h = let f = formed_row i h in formed-one f.0 i f.2 (few-kinds i.code.0 f.0 f.1)
