-- The code of a branch is that of its action and size.
use Rattle.std.proofs.Common.{◌≡◌, ℕ, zero, suc, ◌+◌, Bool, true, ◌&&◌, ◌==◌, List, [], ◌∷◌, refl, ap, sym, ◌∙◌, slice_get, arith}
use Rattle.std.specs.Prelude.{Option, Some, None}
use Rattle.std.proofs.lemmas.Bool.{and_parts, eqb-true}
use Rattle.x86_values.specs.Modes.{size_number}
use Rattle.x86_values.specs.declared.Instr.{Instr}
use Rattle.instruction_parts.specs.declared.row_types.Row.{Row}
use Rattle.opcode_rows.specs.Parts.{integer_rows, integer_flat, x87_rows, x87_flat, sse_rows, sse_flat, vex_rows, vex_flat}
use Rattle.opcode_rows.specs.Table.{spots, rows_in, table}
use Rattle.move_goals.specs.declared.branch_forms.branch.RelativeBranch.{RelativeBranch}
use Rattle.move_goals.specs.BranchForms.Branches.{size_of, short_action, near_action, branch_in, branch_of, short_code, near_code, own_code}
use Rattle.move_goals.proofs.BranchForms.Offsets.{branch-in-row, row-of-branch}

-- a code is that of the branch that there is as it stands
abbrev is_own : ℕ → Option RelativeBranch → Bool
is_own code None = true
is_own code (Some b) = own_code b == code

-- the same of each row of some from a code on
unfoldable all_own : ℕ → List Row → Bool
all_own first [] = true
all_own first (row ∷ rows) = is_own first (branch_in row) && all_own (suc first) rows

table-own : all_own 0 table ≡ true
unfolding all_own branch_in size_of short_action near_action size_number short_code near_code table rows_in spots integer_rows integer_flat x87_rows x87_flat sse_rows sse_flat vex_rows vex_flat
table-own = refl

own-at : (first : ℕ) (rows : List Row) (k : ℕ) (row : Row) → all_own first rows ≡ true → slice_get rows k ≡ Some row → is_own (first + k) (branch_in row) ≡ true
unfolding all_own
own-at first [] k row h at = cc
own-at first (x ∷ rows) zero row h at =
    let same : x ≡ row = cc in
    let here : first + 0 ≡ first = omega arith in
    ap (λ n. is_own n (branch_in row)) here
    ∙ ap (λ r. is_own first (branch_in r)) (sym same)
    ∙ (and_parts (is_own first (branch_in x)) (all_own (suc first) rows) h).0
own-at first (x ∷ rows) (suc k) row h at =
    let there : first + suc k ≡ suc first + k = omega arith in
    ap (λ n. is_own n (branch_in row)) there
    ∙ own-at (suc first) rows k row (and_parts (is_own first (branch_in x)) (all_own (suc first) rows) h).1 at

own-code : (code : ℕ) (row : Row) (b : RelativeBranch) → slice_get table code ≡ Some row → branch_in row ≡ Some b → own_code b ≡ code
own-code code row b at is =
    let place : code ≡ 0 + code = omega arith in
    eqb-true (own_code b) code
    (ap (λ o. is_own code o) (sym is) ∙ ap (λ n. is_own n (branch_in row)) place ∙ own-at 0 table code row table-own at)

-- **a branch has the code of its action and size**
pub branch-code : (i : Instr) (b : RelativeBranch) → branch_of i ≡ Some b → own_code b ≡ i.code.0
branch-code i b h =
    let r = row-of-branch i b h in
    own-code i.code.0 r.0 b r.1 (branch-in-row i r.0 b r.1 h)
