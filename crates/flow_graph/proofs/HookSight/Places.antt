-- Lists of offsets in ascending order, place by place.
use Rattle.std.proofs.Common.{◌≡◌, ℕ, ◌+◌, ◌<◌, ◌≤◌, inl, inr, List, length, get_or, arith, subst, ◌∙◌}
use Rattle.std.specs.List.{Contains}
use Rattle.std.specs.List.Sorted.{IsStrictlyIncreasing}
use Rattle.std.proofs.lemmas.Bool.{cases_lt}
use Rattle.std.proofs.lemmas.List.{get_or_default}
use Rattle.std.proofs.lemmas.List.Kept.{AllPairs-from_increasing}
use Rattle.flow_graph.specs.HookSight.Suspects.{IsAt, IsCursor}

-- the offset at a place is one of the list
pub at_place : (xs : List ℕ) (k q : ℕ) → k < length xs → get_or xs k 0 ≡ q → Contains xs q
at_place xs k q h e = (k, h, get_or_default xs k q 0 h ∙ e)

-- an offset of the list has a place
pub place_of : (xs : List ℕ) (q : ℕ) → Contains xs q → (k : ℕ) × (k < length xs) × (get_or xs k 0 ≡ q)
place_of xs q has = (has.0, has.1, get_or_default xs has.0 0 q has.1 ∙ has.2)

-- what holds at one place more
pub one_more : (P : ℕ → Type 0) (xs : List ℕ) (k : ℕ) → ((j : ℕ) → j < k → P (get_or xs j 0)) → P (get_or xs k 0) → (j : ℕ) → j < k + 1 →
    P (get_or xs j 0)
one_more P xs k before here j below =
    elim (cases_lt j k) [
      | inl less ↦ before j less
      | inr not_less ↦
          let e : k ≡ j = omega (arith, below, not_less) in
          subst (λ (n : ℕ). P (get_or xs n 0)) e here
    ]

-- what holds at each place holds of each offset
pub at_all : (P : ℕ → Type 0) (xs : List ℕ) (n : ℕ) → length xs ≤ n → ((j : ℕ) → j < n → P (get_or xs j 0)) → (q : ℕ) → Contains xs q → P q
at_all P xs n all each q has =
    let at = place_of xs q has in
    subst P at.2 (each at.0 (omega (arith, all, at.1)))

-- an ascending list does not fall
pub ascends : (xs : List ℕ) → IsStrictlyIncreasing xs → (i j : ℕ) → i ≤ j → j < length xs → get_or xs i 0 ≤ get_or xs j 0
ascends xs up i j le lt =
    elim (cases_lt i j) [
      | inl l ↦ omega (arith, AllPairs-from_increasing xs up i j 0 l lt)
      | inr g ↦
          let e : i ≡ j = omega (arith, le, g) in
          subst (λ (n : ℕ). get_or xs i 0 ≤ get_or xs n 0) e (omega arith)
    ]

-- what holds before a place of an ascending list holds of each offset that is less
pub at_lesser : (P : ℕ → Type 0) (xs : List ℕ) → IsStrictlyIncreasing xs → (k : ℕ) → k < length xs → ((j : ℕ) → j < k → P (get_or xs j 0)) →
    (q : ℕ) → q < get_or xs k 0 → Contains xs q → P q
at_lesser P xs up k inside before q less has =
    let at = place_of xs q has in
    elim (cases_lt at.0 k) [
      | inl l ↦ subst P at.2 (before at.0 l)
      | inr g ↦ absurd (omega (arith, less, at.2, ascends xs up k at.0 g at.1))
    ]

-- ---- a pass over all offsets

-- before the first offset none is passed
pub cursor_start : (xs : List ℕ) → IsCursor xs 0 0
cursor_start xs = record { within = omega arith; before = λ j l. absurd (omega arith); behind = λ j g l. omega arith }

module _ (xs : List ℕ) (up : IsStrictlyIncreasing xs) (next p : ℕ) (c : IsCursor xs next p) where
  -- an offset of the list is passed
  pub cursor_at : IsAt xs next p → IsCursor xs (next + 1) (p + 1)
  cursor_at at = record {
    within = omega (arith, at.0);
    before = λ j l. elim (cases_lt j next) [
      | inl less ↦ omega (arith, c.before j less)
      | inr not_less ↦
          let e : next ≡ j = omega (arith, l, not_less) in
          subst (λ (n : ℕ). get_or xs n 0 < p + 1) e (omega (arith, at.1))
    ];
    behind = λ j g l. omega (arith, at.1, AllPairs-from_increasing xs up next j 0 (omega (arith, g)) l);
  }

  -- behind an offset that is not at the cursor, the offsets of the list are greater
  pub cursor_past : (IsAt xs next p → ⊥) → IsCursor xs next (p + 1)
  cursor_past not_at = record {
    within = c.within;
    before = λ j l. omega (arith, c.before j l);
    behind = λ j g l.
        let some : next < length xs = omega (arith, g, l) in
        elim (cases_lt p (get_or xs next 0)) [
          | inl more ↦ omega (arith, more, ascends xs up next j g l)
          | inr not_more ↦
              let e : get_or xs next 0 ≡ p = omega (arith, not_more, c.behind next (omega arith) some) in
              absurd (not_at (some, e))
        ];
  }

  -- an offset that is not at the cursor is none of the list
  pub not_in_list : (IsAt xs next p → ⊥) → Contains xs p → ⊥
  not_in_list not_at has =
      let at = place_of xs p has in
      elim (cases_lt at.0 next) [
        | inl less ↦ omega (arith, at.2, c.before at.0 less)
        | inr not_less ↦ omega (arith, at.2, (cursor_past not_at).behind at.0 not_less at.1)
      ]
