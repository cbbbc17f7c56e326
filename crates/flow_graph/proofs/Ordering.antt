-- An order of the marked offsets, behind one arrival more.
use Rattle.std.proofs.Common.{◌≡◌, ℕ, zero, suc, ◌+◌, ◌<◌, ◌⊎◌, inl, inr, List, [], ◌∷◌, ◌++◌, length, get_or, set, cond, eqb, arith, refl, sym, subst, ap, ◌∙◌, length-set, length-append}
use Rattle.std.specs.Prelude.{if◌then◌else◌, ◌==◌}
use Rattle.std.specs.List.{count_by}
use Rattle.std.proofs.lemmas.Bool.{cases_lt, cases_eq, ne_eqb}
use Rattle.std.proofs.lemmas.List.{get_or-set_same, get_or-set_other, get_or_append_left, get_or_push}
use Rattle.std.proofs.lemmas.List.Sums.{sum_by-set}
use Rattle.flow_graph.specs.Walks.{IsOrder}

abbrev is_zero : ℕ → ℕ
is_zero m = cond (eqb m 0) 1 0

-- a choice by a number that is 0
pub if_zero : {X : Type 0} (n : ℕ) (a b : X) → n ≡ 0 → (if n == 0 then a else b) ≡ a
if_zero zero a b e = refl
if_zero (suc n) a b e = absurd (omega arith)

-- a choice by a number that is not 0
pub if_some : {X : Type 0} (n : ℕ) (a b : X) → 0 < n → (if n == 0 then a else b) ≡ b
if_some n a b h = ap (λ t. if t then a else b) (ne_eqb n 0 (λ e. omega arith))

abbrev unmarked_in : List ℕ → ℕ
unmarked_in marks = count_by (λ m. m == 0) marks

module _ (marks order : List ℕ) (w : IsOrder marks order) (q : ℕ) (within : q < length marks) (m : ℕ) (some : 0 < m) where
  -- the changed mark is the new one
  pub at_same : (j : ℕ) → j ≡ q → get_or (set marks q m) j 0 ≡ m
  at_same j e = subst (λ x. get_or (set marks q m) x 0 ≡ m) (sym e) (get_or-set_same marks q m 0 within)

  -- the other marks stay
  pub at_other : (j : ℕ) → (j ≡ q → ⊥) → get_or (set marks q m) j 0 ≡ get_or marks j 0
  at_other j ne = get_or-set_other marks q j m 0 ne

  -- a marked offset stays marked
  pub stays : (j : ℕ) → 0 < get_or marks j 0 → 0 < get_or (set marks q m) j 0
  stays j h =
      elim (cases_eq j q) [
        | inl e ↦ omega (arith, at_same j e)
        | inr ne ↦ omega (arith, at_other j ne)
      ]

  -- and another one that is marked was so
  pub came : (j : ℕ) → (j ≡ q → ⊥) → 0 < get_or (set marks q m) j 0 → 0 < get_or marks j 0
  came j ne h = omega (arith, at_other j ne)

  -- ---- the first arrival
  module _ (zero_mark : get_or marks q 0 ≡ 0) where
    counted : unmarked_in (set marks q m) + length (order ++ q ∷ []) ≡ length (set marks q m)
    counted =
        let moved = sum_by-set is_zero marks q m 0 within in
        let before : is_zero (get_or marks q 0) ≡ 1 = if_zero (get_or marks q 0) 1 0 zero_mark in
        let after : is_zero m ≡ 0 = if_some m 1 0 some in
        omega (arith, moved, before, after, w.unmarked, length-set marks q m, length-append order (q ∷ []))

    order_old : (k : ℕ) → k < length order → get_or (order ++ q ∷ []) k 0 ≡ get_or order k 0
    order_old k h = get_or_append_left order (q ∷ []) 0 k h

    order_new : (k : ℕ) → length order ≡ k → get_or (order ++ q ∷ []) k 0 ≡ q
    order_new k e = get_or_push order q 0 k e

    len_new : length (order ++ q ∷ []) ≡ length order + 1
    len_new = omega (arith, length-append order (q ∷ []))

    order_is : (k : ℕ) → k < length (order ++ q ∷ []) → (k < length order) ⊎ (length order ≡ k)
    order_is k h = elim (cases_lt k (length order)) [ inl l ↦ inl l | inr g ↦ inr (omega (arith, len_new)) ]

    -- what holds of each offset of the order and of q, holds behind it
    pub each_new : (P : ℕ → Type 0) → ((k : ℕ) → k < length order → P (get_or order k 0)) → P q →
        (k : ℕ) → k < length (order ++ q ∷ []) → P (get_or (order ++ q ∷ []) k 0)
    each_new P old new k h =
        elim (order_is k h) [
          | inl l ↦ subst P (sym (order_old k l)) (old k l)
          | inr e ↦ subst P (sym (order_new k e)) new
        ]

    marked_q : 0 < get_or (set marks q m) q 0
    marked_q = omega (arith, at_same q refl)

    listed_new : (t : ℕ) → 0 < get_or (set marks q m) t 0 → (k : ℕ) × (k < length (order ++ q ∷ [])) × (get_or (order ++ q ∷ []) k 0 ≡ t)
    listed_new t h =
        elim (cases_eq t q) [
          | inl e ↦ (length order, omega (arith, len_new), order_new (length order) refl ∙ sym e)
          | inr ne ↦
              let old = w.listed t (came t ne h) in
              (old.0, omega (arith, len_new, old.1), order_old old.0 old.1 ∙ old.2)
        ]

    not_listed : (k : ℕ) → k < length order → get_or order k 0 ≡ q → ⊥
    not_listed k l e =
        let m = w.marked k l in
        let n : get_or marks (get_or order k 0) 0 ≡ 0 = subst (λ x. get_or marks x 0 ≡ 0) (sym e) zero_mark in omega arith

    apart_new : (i j : ℕ) → i < length (order ++ q ∷ []) → j < length (order ++ q ∷ []) →
        get_or (order ++ q ∷ []) i 0 ≡ get_or (order ++ q ∷ []) j 0 → i ≡ j
    apart_new i j hi hj e =
        elim (order_is i hi) [
          | inl li ↦ elim (order_is j hj) [
            | inl lj ↦ w.apart i j li lj (sym (order_old i li) ∙ (e ∙ order_old j lj))
            | inr ej ↦ absurd (not_listed i li (sym (order_old i li) ∙ (e ∙ order_new j ej)))
          ]
          | inr ei ↦ elim (order_is j hj) [
            | inl lj ↦ absurd (not_listed j lj (sym (order_old j lj) ∙ (sym e ∙ order_new i ei)))
            | inr ej ↦ omega arith
          ]
        ]

    -- **q is marked, and stands at the end of the order**
    pub order_more : IsOrder (set marks q m) (order ++ q ∷ [])
    order_more =
        record {
          unmarked = counted;
          marked = each_new (λ x. 0 < get_or (set marks q m) x 0) (λ k l. stays (get_or order k 0) (w.marked k l)) marked_q;
          listed = listed_new;
          apart = apart_new;
        }

  -- ---- another arrival
  module _ (some_mark : 0 < get_or marks q 0) where
    counted_again : unmarked_in (set marks q m) + length order ≡ length (set marks q m)
    counted_again =
        let moved = sum_by-set is_zero marks q m 0 within in
        let before : is_zero (get_or marks q 0) ≡ 0 = if_some (get_or marks q 0) 1 0 some_mark in
        let after : is_zero m ≡ 0 = if_some m 1 0 some in
        omega (arith, moved, before, after, w.unmarked, length-set marks q m)

    listed_again : (t : ℕ) → 0 < get_or (set marks q m) t 0 → (k : ℕ) × (k < length order) × (get_or order k 0 ≡ t)
    listed_again t h =
        elim (cases_eq t q) [
          | inl e ↦ w.listed t (subst (λ x. 0 < get_or marks x 0) (sym e) some_mark)
          | inr ne ↦ w.listed t (came t ne h)
        ]

    -- **the order stays as it is**
    pub order_again : IsOrder (set marks q m) order
    order_again =
        record {
          unmarked = counted_again;
          marked = λ k l. stays (get_or order k 0) (w.marked k l);
          listed = listed_again;
          apart = w.apart;
        }
