-- Lists: what a search that finds nothing says, and one entry more, by address.
use Rattle.std.proofs.Common.{◌≡◌, ℕ, suc, inl, inr, Bool, false, List, [], ◌∷◌, find, arith, nat_lt, None}
use Rattle.std.specs.Prelude.{All, AllPairs}
use Rattle.std.proofs.lemmas.Bool.{cases_Bool}
use Rattle.std.proofs.lemmas.List.Elements.{All-nil, All-cons, All-head, All-tail}
use Rattle.std.proofs.lemmas.List.Kept.{AllPairs-cons}
use Rattle.code_region.specs.LiveEntries.Order.{with_entry}

-- what is not found holds of none
pub not-found : {A : Type 0} (p : A → Bool) (xs : List A) → find p xs ≡ None → All (λ x. p x ≡ false) xs
not-found p [] e = All-nil (λ x. p x ≡ false)
not-found p (x ∷ xs) e = elim (cases_Bool (p x)) [
  | inl hit ↦ (let f = rw hit at e in absurd cc)
  | inr miss ↦ All-cons (λ y. p y ≡ false) x xs miss (not-found p xs (rw miss at e))
]

module _ {A : Type 0} (at : A → ℕ) where
  -- one more of which it holds
  pub all-with : (P : A → Type 0) (x : A) (xs : List A) → P x → All P xs → All P (with_entry at x xs)
  all-with P x [] is a = All-cons P x [] is a
  all-with P x (y ∷ ys) is a = elim (cases_Bool (nat_lt (at y) (at x))) [
    | inl before ↦ rw before (All-cons P y (with_entry at x ys) (All-head P y ys a) (all-with P x ys is (All-tail P y ys a)))
    | inr behind ↦ rw behind (All-cons P x (y ∷ ys) is a)
  ]

module _ {A : Type 0} (R : A → A → Type 0) where
  -- the first goes with each other
  pub pairs-head : (x : A) (xs : List A) → AllPairs R (x ∷ xs) → All (R x) xs
  pairs-head x xs a = λ k d lt. a 0 (suc k) d (omega arith) (omega arith)

  -- and so do the others
  pub pairs-tail : (x : A) (xs : List A) → AllPairs R (x ∷ xs) → AllPairs R xs
  pairs-tail x xs a = λ i j d lt within. a (suc i) (suc j) d (omega arith) (omega arith)

  -- of none
  pub pairs-nil : AllPairs R []
  pairs-nil = λ i j d lt within. absurd (omega arith)

  -- one more that goes with each
  pub pairs-with : (at : A → ℕ) (x : A) (xs : List A) → All (R x) xs → All (λ y. R y x) xs → AllPairs R xs → AllPairs R (with_entry at x xs)
  pairs-with at x [] to from a = AllPairs-cons R x [] to a
  pairs-with at x (y ∷ ys) to from a = elim (cases_Bool (nat_lt (at y) (at x))) [
    | inl before ↦ rw before
        (AllPairs-cons R y (with_entry at x ys)
        (all-with at (R y) x ys (All-head (λ z. R z x) y ys from) (pairs-head y ys a))
        (pairs-with at x ys (All-tail (R x) y ys to) (All-tail (λ z. R z x) y ys from) (pairs-tail y ys a)))
    | inr behind ↦ rw behind (AllPairs-cons R x (y ∷ ys) to a)
  ]
