-- Counting the rows of a name.
use Rattle.std.proofs.Common.{◌≡◌, ◌<◌, ◌≤◌, ◌+◌, ℕ, Bool, true, false, cond, List, [], ◌∷◌, zero, suc, take, length, get_or, refl, ap, sym, ◌∙◌, arith}
use Rattle.std.specs.Prelude.{bytes_eq}
use Rattle.std.proofs.lemmas.Option.{unwrap_or-slice_get}
use Rattle.std.proofs.lemmas.List.Sums.{count_by_more_yes, count_by_more_no, sum_by-take-le}
use Rattle.opcode_rows.specs.declared.generated_spots.TheConstants.{ROWS}
use Rattle.opcode_rows.specs.Table.{names, name_of}
use Rattle.opcode_rows.specs.ByName.{count_named, rows_named, rows_named_before}
use Rattle.opcode_rows.proofs.Words.{length-names}

-- what a test of the name of a code says of the code's index in the list
test-at : (k : ℕ) (name : List ℕ) (b : Bool) → bytes_eq (name_of k) name ≡ b → bytes_eq (get_or names k []) name ≡ b
unfolding name_of
test-at k name b h = ap (λ y. bytes_eq y name) (sym (unwrap_or-slice_get names k [])) ∙ h

-- a row of the name raises the number of rows of that name by one
pub one-more : (k : ℕ) (name : List ℕ) → k < ROWS → bytes_eq (name_of k) name ≡ true → rows_named_before name (k + 1) ≡ rows_named_before name k + 1
one-more k name lt h =
    count_by_more_yes (λ x. bytes_eq x name) names k [] (omega (arith, lt, length-names)) (test-at k name true h)

-- a row of another name keeps it
pub no-more : (k : ℕ) (name : List ℕ) → k < ROWS → bytes_eq (name_of k) name ≡ false → rows_named_before name (k + 1) ≡ rows_named_before name k
no-more k name lt h =
    count_by_more_no (λ x. bytes_eq x name) names k [] (omega (arith, lt, length-names)) (test-at k name false h)

-- no part of the names has more of a name than all
pub before-le : (name : List ℕ) (k : ℕ) → rows_named_before name k ≤ rows_named name
before-le name k = sum_by-take-le (λ x. cond (bytes_eq x name) 1 0) names k

take-all : (xs : List (List ℕ)) (k : ℕ) → length xs ≤ k → take k xs ≡ xs
take-all [] zero le = refl
take-all [] (suc k) le = refl
take-all (x ∷ xs) zero le = absurd (omega arith)
take-all (x ∷ xs) (suc k) le = ap (λ ys. x ∷ ys) (take-all xs k (omega arith))

-- all rows stand before the end
pub before-all : (name : List ℕ) (k : ℕ) → ROWS ≤ k → rows_named_before name k ≡ rows_named name
before-all name k le = ap (count_named name) (take-all names k (omega (arith, le, length-names)))
