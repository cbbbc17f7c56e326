-- What every line of the constant table keeps to, each by computing over all lines and rows.
use Rattle.std.proofs.Common.{◌≡◌, ℕ, zero, suc, ◌<◌, Bool, true, false, ◌&&◌, ◌||◌, List, [], ◌∷◌, slice_get, refl, ap, sym, ◌∙◌, arith}
use Rattle.std.proofs.lemmas.Bool.{and_parts}
use Rattle.std.specs.Prelude.{Some, not, IsTrue}
use Rattle.instruction_parts.specs.declared.row_types.Row.{Row}
use Rattle.instruction_parts.specs.Kinds.{method_of}
use Rattle.row_fit.specs.Fits.{kind_at}
use Rattle.opcode_rows.specs.Parts.{integer_rows, integer_flat, x87_rows, x87_flat, sse_rows, sse_flat, vex_rows, vex_flat}
use Rattle.opcode_rows.specs.Table.{spots, rows_in, table}
use Rattle.operand_info.specs.declared.columns.Access.{Access}
use Rattle.operand_info.specs.declared.columns.Access.TheVariants.{None as NoAccess, Read, Write, ReadWrite}
use Rattle.operand_info.specs.declared.columns.Columns.{Columns}
use Rattle.operand_info.specs.Columns.{has_operand, has_direct_target}
use Rattle.operand_info.specs.ByCode.{flow_of, access_of}
use Rattle.operand_info.specs.Lines.{columns}
use Rattle.operand_info.specs.Laws.{is_constant, goes_to_operand}
use Rattle.operand_info.proofs.Lines.{line_of_code, line-of_table}

-- a test of each line with its row
unfoldable all_lines : (Columns → Row → Bool) → List Columns → List Row → Bool
all_lines p [] rows = true
all_lines p (line ∷ lines) [] = true
all_lines p (line ∷ lines) (row ∷ rows) = p line row && all_lines p lines rows

all_lines-at : (p : Columns → Row → Bool) (lines : List Columns) (rows : List Row) (code : ℕ) (line : Columns) (row : Row) → all_lines p lines rows ≡ true
    → slice_get lines code ≡ Some line → slice_get rows code ≡ Some row → p line row ≡ true
unfolding all_lines
all_lines-at p [] rows code line row h at-line at = cc
all_lines-at p (l ∷ lines) [] code line row h at-line at = cc
all_lines-at p (l ∷ lines) (r ∷ rows) zero line row h at-line at =
    let same_line : l ≡ line = cc in
    let same_row : r ≡ row = cc in
    ap (λ x. p x row) (sym same_line) ∙ (ap (λ x. p l x) (sym same_row) ∙ (and_parts (p l r) (all_lines p lines rows) h).0)
all_lines-at p (l ∷ lines) (r ∷ rows) (suc code) line row h at-line at =
    all_lines-at p lines rows code line row (and_parts (p l r) (all_lines p lines rows) h).1 at-line at

-- ---- constants

abbrev is_read : Access → Bool
is_read Read = true
is_read _ = false

is_read-true : (a : Access) → is_read a ≡ true → a ≡ Read
is_read-true NoAccess h = cc
is_read-true Read h = refl
is_read-true Write h = cc
is_read-true ReadWrite h = cc

unfoldable read_if_constant : Row → ℕ → Access → Bool
read_if_constant row n access = not (is_constant (method_of (kind_at row n))) || is_read access

unfoldable reads_constants : Columns → Row → Bool
reads_constants line row =
    read_if_constant row 0 line.op0 && (read_if_constant row 1 line.op1 && (read_if_constant row 2 line.op2 && read_if_constant row 3 line.op3))

constants_read : all_lines reads_constants columns table ≡ true
unfolding all_lines reads_constants read_if_constant is_constant method_of columns table rows_in spots integer_rows integer_flat x87_rows x87_flat sse_rows sse_flat vex_rows vex_flat
constants_read = refl

read-of_test : (row : Row) (n : ℕ) (access : Access) → read_if_constant row n access ≡ true → IsTrue (is_constant (method_of (kind_at row n))) → access ≡ Read
unfolding read_if_constant
read-of_test row n access h constant = is_read-true access (rw constant at h)

tested : (code : ℕ) (row : Row) → slice_get table code ≡ Some row → reads_constants (line_of_code code) row ≡ true
tested code row at = all_lines-at reads_constants columns table code (line_of_code code) row constants_read (line-of_table code row at) at

-- the test of operand n, and those of the operands from n on
abbrev test_at : ℕ → Row → ℕ → Bool
test_at code row n = read_if_constant row n (access_of code n)

abbrev tests_from_2 : ℕ → Row → Bool
tests_from_2 code row = test_at code row 2 && test_at code row 3

abbrev tests_from_1 : ℕ → Row → Bool
tests_from_1 code row = test_at code row 1 && tests_from_2 code row

tested-0 : (code : ℕ) (row : Row) → slice_get table code ≡ Some row → (test_at code row 0 && tests_from_1 code row) ≡ true
unfolding reads_constants
tested-0 code row at = tested code row at

tested-1 : (code : ℕ) (row : Row) → slice_get table code ≡ Some row → tests_from_1 code row ≡ true
tested-1 code row at = (and_parts (test_at code row 0) (tests_from_1 code row) (tested-0 code row at)).1

tested-2 : (code : ℕ) (row : Row) → slice_get table code ≡ Some row → tests_from_2 code row ≡ true
tested-2 code row at = (and_parts (test_at code row 1) (tests_from_2 code row) (tested-1 code row at)).1

test_holds : (code n : ℕ) (row : Row) → slice_get table code ≡ Some row → n < 4 → test_at code row n ≡ true
test_holds code zero row at lt = (and_parts (test_at code row 0) (tests_from_1 code row) (tested-0 code row at)).0
test_holds code (suc zero) row at lt = (and_parts (test_at code row 1) (tests_from_2 code row) (tested-1 code row at)).0
test_holds code (suc (suc zero)) row at lt = (and_parts (test_at code row 2) (test_at code row 3) (tested-2 code row at)).0
test_holds code (suc (suc (suc zero))) row at lt = (and_parts (test_at code row 2) (test_at code row 3) (tested-2 code row at)).1
test_holds code (suc (suc (suc (suc n)))) row at lt = absurd (omega arith)

-- a constant operand is read
pub constant-read : (code n : ℕ) (row : Row) → slice_get table code ≡ Some row → n < 4 → IsTrue (is_constant (method_of (kind_at row n))) → access_of code n ≡ Read
constant-read code n row at lt constant = read-of_test row n (access_of code n) (test_holds code n row at lt) constant

-- ---- targets

abbrev same : Bool → Bool → Bool
same true b = b
same false b = not b

same-true : (a b : Bool) → same a b ≡ true → a ≡ b
same-true true true h = refl
same-true true false h = cc
same-true false true h = cc
same-true false false h = refl

unfoldable target_stands : Columns → Row → Bool
target_stands line row = same (has_direct_target row) (goes_to_operand line.flow row)

targets_stand : all_lines target_stands columns table ≡ true
unfolding all_lines target_stands has_direct_target goes_to_operand has_operand columns table rows_in spots integer_rows integer_flat x87_rows x87_flat sse_rows sse_flat vex_rows vex_flat
targets_stand = refl

-- a row has a direct target exactly if its flow goes to an operand
pub target-of_flow : (code : ℕ) (row : Row) → slice_get table code ≡ Some row → has_direct_target row ≡ goes_to_operand (flow_of code) row
unfolding target_stands
target-of_flow code row at =
    same-true (has_direct_target row) (goes_to_operand (flow_of code) row)
    (all_lines-at target_stands columns table code (line_of_code code) row targets_stand (line-of_table code row at) at)
