-- A walk comes to stand at one first offset after another.
use Rattle.std.proofs.Common.{◌≡◌, ℕ, zero, suc, ◌+◌, ◌<◌, ◌≤◌, inl, inr, List, [], ◌∷◌, ◌++◌, length, length-set, get_or, set, replicate, cond, eqb, Bool, arith, refl, sym, subst, ap, ◌∙◌}
use Rattle.std.specs.Prelude.{if◌then◌else◌, ◌==◌}
use Rattle.std.specs.List.{count_by, Contains}
use Rattle.std.proofs.lemmas.Bool.{cases_lt, cases_eq, lt-ltb, le-ltb}
use Rattle.std.proofs.lemmas.List.{length-replicate, get_or_default}
use Rattle.std.proofs.lemmas.List.Sums.{sum_by-cons}
use Rattle.flow_graph.specs.Marks.{marks_after, order_after}
use Rattle.flow_graph.specs.Walks.{entered_marks, entered_order, IsOrder, IsStarted}
use Rattle.flow_graph.proofs.Ordering.{if_zero, if_some, at_same, at_other, stays, order_more, order_again}

zero_at : (n k : ℕ) → get_or {A = ℕ} (replicate n 0) k 0 ≡ 0
zero_at zero k = refl
zero_at (suc n) zero = refl
zero_at (suc n) (suc k) = zero_at n k

count_zeros : (n : ℕ) → count_by (λ m. m == 0) (replicate n 0) ≡ n
count_zeros zero = refl
count_zeros (suc n) =
    let e = sum_by-cons (λ m. cond (eqb m 0) 1 0) 0 (replicate n 0) in omega (arith, e, count_zeros n)

-- **nothing is marked before the first**
pub enters_none : (entries : List ℕ) (count : ℕ) (marks order : List ℕ) → marks ≡ replicate count 0 → order ≡ [] → IsStarted entries count 0 marks order
enters_none entries count marks order m o =
    subst (λ xs. IsStarted entries count 0 xs order) (sym m)
    (subst (IsStarted entries count 0 (replicate count 0)) (sym o) (record {
      len = length-replicate {A = ℕ} count 0;
      once = record {
        unmarked = omega (arith, count_zeros count, length-replicate {A = ℕ} count 0);
        marked = λ k h. absurd (omega arith);
        listed = λ q h. absurd (omega (arith, zero_at count q));
        apart = λ i j h k s. absurd (omega arith);
      };
      entry = λ k h. absurd (omega arith);
      only = λ q h. absurd (omega (arith, zero_at count q));
    }))

module _ (entries : List ℕ) (count n : ℕ) (marks order : List ℕ) (w : IsStarted entries count n marks order) (q : ℕ) (there : n < length entries)
    (is : q ≡ get_or entries n 0) where
  one : 0 < 1
  one = omega arith

  has : Contains entries q
  has = (n, there, get_or_default entries n q 0 there ∙ sym is)

  module _ (inside : q < length marks) where
    same : (j : ℕ) → j ≡ q → get_or (set marks q 1) j 0 ≡ 1
    same j e = at_same marks order w.once q inside 1 one j e

    other : (j : ℕ) → (j ≡ q → ⊥) → get_or (set marks q 1) j 0 ≡ get_or marks j 0
    other j ne = at_other marks order w.once q inside 1 one j ne

    entry_more : (k : ℕ) → k < n + 1 → get_or entries k 0 < count → 0 < get_or (set marks q 1) (get_or entries k 0) 0
    entry_more k h l =
        elim (cases_lt k n) [
          | inl old ↦ stays marks order w.once q inside 1 one (get_or entries k 0) (w.entry k old l)
          | inr new ↦
              let now : k ≡ n = omega arith in
              let e : get_or entries k 0 ≡ q = ap (λ x. get_or entries x 0) now ∙ sym is in omega (arith, same (get_or entries k 0) e)
        ]

    only_more : (t : ℕ) → 0 < get_or (set marks q 1) t 0 → (get_or (set marks q 1) t 0 ≡ 1) × (t < count) × Contains entries t
    only_more t h =
        elim (cases_eq t q) [
          | inl e ↦ (same t e, omega (arith, w.len), subst (Contains entries) (sym e) has)
          | inr ne ↦ let old = w.only t (omega (arith, other t ne)) in (other t ne ∙ old.0, old.1, old.2)
        ]

    entered_by : (longer : List ℕ) → IsOrder (set marks q 1) longer → IsStarted entries count (n + 1) (set marks q 1) longer
    entered_by longer once = record { len = length-set marks q 1 ∙ w.len; once = once; entry = entry_more; only = only_more }

    entered_inside : IsStarted entries count (n + 1) (marks_after marks q 1) (order_after marks order q)
    entered_inside =
        elim (cases_eq (get_or marks q 0) 0) [
          | inl e ↦
              let o = if_zero (get_or marks q 0) (order ++ q ∷ []) order e in
              let m = if_zero (get_or marks q 0) 1 1 e in
              subst (λ xs. IsStarted entries count (n + 1) (marks_after marks q 1) xs) (sym o)
              (subst (λ x. IsStarted entries count (n + 1) (set marks q x) (order ++ q ∷ [])) (sym m)
              (entered_by (order ++ q ∷ []) (order_more marks order w.once q inside 1 one e)))
          | inr ne ↦
              let h : 0 < get_or marks q 0 = omega arith in
              let o = if_some (get_or marks q 0) (order ++ q ∷ []) order h in
              let m = if_some (get_or marks q 0) 1 1 h in
              subst (λ xs. IsStarted entries count (n + 1) (marks_after marks q 1) xs) (sym o)
              (subst (λ x. IsStarted entries count (n + 1) (set marks q x) order) (sym m)
              (entered_by order (order_again marks order w.once q inside 1 one h)))
        ]

  -- an offset at which there is no byte adds nothing
  entered_outside : length marks ≤ q → IsStarted entries count (n + 1) marks order
  entered_outside far = record { len = w.len; once = w.once; entry = entry; only = w.only }
    where
      entry : (k : ℕ) → k < n + 1 → get_or entries k 0 < count → 0 < get_or marks (get_or entries k 0) 0
      entry k h l =
          elim (cases_lt k n) [
            | inl old ↦ w.entry k old l
            | inr new ↦
                let now : k ≡ n = omega arith in
                let e : get_or entries k 0 ≡ q = ap (λ x. get_or entries x 0) now ∙ sym is in absurd (omega (arith, e, w.len))
          ]

  -- **one first offset more**
  pub enters_more : (marks' order' : List ℕ) → marks' ≡ entered_marks marks q → order' ≡ entered_order marks order q →
      IsStarted entries count (n + 1) marks' order'
  enters_more marks' order' m o =
      subst (λ xs. IsStarted entries count (n + 1) xs order') (sym m)
      (subst (IsStarted entries count (n + 1) (entered_marks marks q)) (sym o) (elim (cases_lt q (length marks)) [
        | inl inside ↦ subst Next (sym (lt-ltb q (length marks) inside)) (entered_inside inside)
        | inr far ↦ subst Next (sym (le-ltb q (length marks) far)) (entered_outside far)
      ]))
    where
      Next : Bool → Type 0
      Next b = IsStarted entries count (n + 1) (if b then marks_after marks q 1 else marks) (if b then order_after marks order q else order)
