-- The names are words, and no row has two operands that can be memory or a far pointer.
use Rattle.std.proofs.Common.{◌≡◌, ◌<◌, ◌≤◌, ℕ, zero, suc, true, ◌&&◌, Bool, refl, List, [], ◌∷◌, length, slice_get, arith, leb-true}
use Rattle.std.proofs.lemmas.Bool.{and_parts}
use Rattle.std.specs.Prelude.{Some, IsTrue, nat_le, nat_lt, unwrap_or}
use Rattle.std.specs.List.{list_all}
use Rattle.instruction_parts.specs.declared.row_types.Row.{Row}
use Rattle.instruction_parts.specs.Kinds.{method_of}
use Rattle.opcode_rows.specs.Parts.{integer_rows, integer_flat, x87_rows, x87_flat, sse_rows, sse_flat, vex_rows, vex_flat}
use Rattle.opcode_rows.specs.declared.spot.Part.{Part}
use Rattle.opcode_rows.specs.declared.spot.Part.TheVariants as part
use Rattle.opcode_rows.specs.declared.generated_spots.TheConstants.{ROWS}
use Rattle.opcode_rows.specs.Table.{part_table, table, names, name_of}
use Rattle.opcode_rows.specs.Words.{is_name_byte, is_name, is_long_method, has_one_long_kind}
use Rattle.opcode_rows.proofs.JoinFacts.{all_rows, in_each_part}

each-long : (p : Part) → all_rows has_one_long_kind (part_table p) ≡ true
unfolding all_rows has_one_long_kind is_long_method method_of integer_rows integer_flat x87_rows x87_flat sse_rows sse_flat vex_rows vex_flat
each-long part.Integer = refl
each-long part.X87 = refl
each-long part.Sse = refl
each-long part.Vex = refl

-- a row has at most one operand that is memory or a far pointer
pub one-long-row : (code : ℕ) (row : Row) → slice_get table code ≡ Some row → IsTrue (has_one_long_kind row)
one-long-row code row at = in_each_part has_one_long_kind each-long code row at

-- ---- names

unfoldable all_names : List (List ℕ) → Bool
unfolding is_name
all_names [] = true
all_names (n ∷ ns) = is_name n && all_names ns

are_names : all_names names ≡ true
unfolding all_names is_name names
are_names = refl

-- there is a name for each row
pub length-names : length names ≡ ROWS
unfolding names
length-names = refl

all_names-at : (ns : List (List ℕ)) (k : ℕ) → all_names ns ≡ true → k < length ns → is_name (unwrap_or (slice_get ns k) []) ≡ true
unfolding all_names
all_names-at [] k h lt = absurd (omega arith)
all_names-at (n ∷ ns) zero h lt = (and_parts (is_name n) (all_names ns) h).0
all_names-at (n ∷ ns) (suc k) h lt = all_names-at ns k (and_parts (is_name n) (all_names ns) h).1 (omega arith)

-- each name has 1 to 16 lower-case letters and digits
pub name-is_name : (code : ℕ) → code < ROWS → IsTrue (is_name (name_of code))
unfolding name_of
name-is_name code lt = all_names-at names code are_names (omega (arith, lt, length-names))

-- a name has at most 16 bytes
pub name-short : (code : ℕ) → code < ROWS → length (name_of code) ≤ 16
unfolding is_name
name-short code lt =
    let n : List ℕ = name_of code in
    let rest : (nat_le (length n) 16 && list_all is_name_byte n) ≡ true =
    (and_parts (nat_lt 0 (length n)) (nat_le (length n) 16 && list_all is_name_byte n) (name-is_name code lt)).1
    in
    leb-true (length n) 16 (and_parts (nat_le (length n) 16) (list_all is_name_byte n) rest).0
