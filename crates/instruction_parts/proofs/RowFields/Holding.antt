-- What the list of the codes that hold says of the rows.
use Rattle.std.proofs.Common.{◌≡◌, ℕ, zero, suc, ◌+◌, ◌≤◌, Bool, true, false, List, [], ◌∷◌, length, slice_get, refl, arith, inl, inr}
use Rattle.std.specs.Prelude.{Some}
use Rattle.instruction_parts.specs.declared.row_types.Row.{Row}
use Rattle.x86_values.specs.declared.Bits.{Bits}
use Rattle.instruction_parts.specs.declared.row_fields.Fields.{Fields}
use Rattle.instruction_parts.specs.RowFields.Holds.{holds, codes_holding, HoldsNowhere, IsOnlyRow, RowsAreApart}
use Rattle.instruction_parts.proofs.RowFields.Apart.{bool_cases}

cons-empty : (n : ℕ) (ns : List ℕ) → n ∷ ns ≡ [] → ⊥
cons-empty n ns h = cc

cons-head : (m n : ℕ) (ms : List ℕ) → m ∷ ms ≡ n ∷ [] → m ≡ n
cons-head m n ms h = cc

cons-tail : (m n : ℕ) (ms : List ℕ) → m ∷ ms ≡ n ∷ [] → ms ≡ []
cons-tail m n ms h = cc

none-false : (bits : Bits) (first : ℕ) (rows : List Row) (f : Fields) → codes_holding bits first rows f ≡ []
    → (i : ℕ) (r : Row) → slice_get rows i ≡ Some r → holds bits r f ≡ false
unfolding codes_holding
none-false bits first [] f h i r at = cc
none-false bits first (x ∷ xs) f h zero r at =
    let same : x ≡ r = cc in
    elim (bool_cases (holds bits x f)) [
      | inl p ↦ absurd (cons-empty first (codes_holding bits (suc first) xs f) (rw p at h))
      | inr p ↦ rw (← same) p
    ]
none-false bits first (x ∷ xs) f h (suc i) r at =
    elim (bool_cases (holds bits x f)) [
      | inl p ↦ absurd (cons-empty first (codes_holding bits (suc first) xs f) (rw p at h))
      | inr p ↦ none-false bits (suc first) xs f (rw p at h) i r at
    ]

one-row : (bits : Bits) (first : ℕ) (rows : List Row) (f : Fields) (code : ℕ) → codes_holding bits first rows f ≡ code ∷ []
    → (k : ℕ) × (r : Row) × (code ≡ first + k) × (slice_get rows k ≡ Some r) × (holds bits r f ≡ true)
unfolding codes_holding
one-row bits first [] f code h = cc
one-row bits first (x ∷ xs) f code h =
    elim (bool_cases (holds bits x f)) [
      | inl p ↦ (let e : first ≡ code = cons-head first code (codes_holding bits (suc first) xs f) (rw p at h) in
          (0, x, omega (arith, e), refl, p))
      | inr p ↦ (let t = one-row bits (suc first) xs f code (rw p at h) in
          let e : code ≡ suc first + t.0 = t.2 in
          (suc t.0, t.1, omega (arith, e), t.3, t.4))
    ]

one-alone : (bits : Bits) (first : ℕ) (rows : List Row) (f : Fields) (code : ℕ) → codes_holding bits first rows f ≡ code ∷ []
    → (i : ℕ) (r : Row) → slice_get rows i ≡ Some r → holds bits r f ≡ true → first + i ≡ code
unfolding codes_holding
one-alone bits first [] f code h i r at met = cc
one-alone bits first (x ∷ xs) f code h zero r at met =
    let same : x ≡ r = cc in
    let yes : holds bits x f ≡ true = rw same met in
    let e : first ≡ code = cons-head first code (codes_holding bits (suc first) xs f) (rw yes at h) in
    omega (arith, e)
one-alone bits first (x ∷ xs) f code h (suc i) r at met =
    elim (bool_cases (holds bits x f)) [
      | inl p ↦ (let none : codes_holding bits (suc first) xs f ≡ [] = cons-tail first code (codes_holding bits (suc first) xs f) (rw p at h) in
          let no : holds bits r f ≡ false = none-false bits (suc first) xs f none i r at in
          absurd (not_both (holds bits r f) met no))
      | inr p ↦ (let e : suc first + i ≡ code = one-alone bits (suc first) xs f code (rw p at h) i r at met in omega (arith, e))
    ]
  where
    not_both : (b : Bool) → b ≡ true → b ≡ false → ⊥
    not_both b p q = cc

-- if no code holds, no row's conditions hold
pub nowhere : (bits : Bits) (rows : List Row) (f : Fields) → codes_holding bits 0 rows f ≡ [] → HoldsNowhere bits rows f
nowhere bits rows f h code r at = none-false bits 0 rows f h code r at

-- if one code holds, its row is the only one whose conditions hold
pub only_row : (bits : Bits) (rows : List Row) (f : Fields) (code : ℕ) → codes_holding bits 0 rows f ≡ code ∷ [] → IsOnlyRow bits rows f code
only_row bits rows f code h =
    let t = one-row bits 0 rows f code h in
    let e : t.0 ≡ code = omega (arith, t.2) in
    record {
      row = t.1;
      there = rw e at t.3;
      met = t.4;
      alone = λ other r at met. (let same : 0 + other ≡ code = one-alone bits 0 rows f code h other r at met in omega (arith, same));
    }

-- if at most one code holds, two rows whose conditions hold are one
pub apart : (bits : Bits) (rows : List Row) (f : Fields) → length (codes_holding bits 0 rows f) ≤ 1 → RowsAreApart bits rows f
apart bits rows f h j k q r at-j at-k met-j met-k = by_length (codes_holding bits 0 rows f) refl h
  where
    by_length : (codes : List ℕ) → codes_holding bits 0 rows f ≡ codes → length codes ≤ 1 → j ≡ k
    by_length [] e l = let no : holds bits q f ≡ false = none-false bits 0 rows f e j q at-j in cc
    by_length (c ∷ []) e l =
        let a : 0 + j ≡ c = one-alone bits 0 rows f c e j q at-j met-j in
        let b : 0 + k ≡ c = one-alone bits 0 rows f c e k r at-k met-k in
        omega (arith, a, b)
    by_length (c ∷ d ∷ cs) e l = absurd (omega arith)
