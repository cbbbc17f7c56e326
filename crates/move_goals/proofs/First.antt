-- The least number that passes a test.
use Rattle.std.proofs.Common.{◌≡◌, ℕ, zero, suc, ◌<◌, ◌≤◌, Bool, true, false, Option, Some, None, ◌⊎◌, inl, inr, arith, refl, ap, ◌∙◌, subst}
use Rattle.std.specs.Prelude.{if◌then◌else◌}
use Rattle.std.proofs.lemmas.Bool.{cases_lt}
use Rattle.move_goals.specs.Items.{first_below}

-- none passes
pub first_below_none : (p : ℕ → Bool) (n : ℕ) → ((j : ℕ) → j < n → p j ≡ false) → first_below p n ≡ None
first_below_none p zero h = refl
first_below_none p (suc n) h = rw (first_below_none p n (λ j lt. h j (omega arith)), h n (omega arith)) refl

-- one passes, and none before it
pub first_below_hit : (p : ℕ → Bool) (n k : ℕ) → k < n → p k ≡ true → ((j : ℕ) → j < k → p j ≡ false) → first_below p n ≡ Some k
first_below_hit p zero k lt here before = absurd (omega arith)
first_below_hit p (suc n) k lt here before =
    elim (cases_lt k n) [
      | inl below ↦ rw (first_below_hit p n k below here before) refl
      | inr ge ↦
          let e : k ≡ n = omega arith in
          let at : p n ≡ true = subst (λ x. p x ≡ true) e here in
          let none : first_below p n ≡ None = first_below_none p n (λ j l. before j (omega arith)) in
          rw (none, at, e) refl
    ]

-- the answer below the next number
abbrev next : Option ℕ → Bool → ℕ → Option ℕ
next o b n = elim o [ Some k ↦ Some k | None ↦ if b then Some n else None ]

-- tests that agree have the same first number
pub first_below_congr : (p q : ℕ → Bool) (n : ℕ) → ((j : ℕ) → j < n → p j ≡ q j) → first_below p n ≡ first_below q n
first_below_congr p q zero h = refl
first_below_congr p q (suc n) h =
    ap (λ o. next o (p n) n) (first_below_congr p q n (λ j lt. h j (omega arith))) ∙ ap (λ b. next (first_below q n) b n) (h n (omega arith))

none_next : (o : Option ℕ) (b : Bool) (n : ℕ) → next o b n ≡ None → (o ≡ None) × (b ≡ false)
none_next (Some k) b n h = absurd (cc)
none_next None true n h = absurd (cc)
none_next None false n h = (refl, refl)

some_next : (o : Option ℕ) (b : Bool) (n k : ℕ) → next o b n ≡ Some k → (o ≡ Some k) ⊎ ((b ≡ true) × (n ≡ k))
some_next (Some j) b n k h = inl h
some_next None true n k h = inr (refl, cc)
some_next None false n k h = absurd (cc)

at_end : (n j : ℕ) → j < suc n → n ≤ j → n ≡ j
at_end n j lt ge = omega arith

-- without a first number none passes
pub none_below : (p : ℕ → Bool) (n : ℕ) → first_below p n ≡ None → (j : ℕ) → j < n → p j ≡ false
none_below p zero none j lt = absurd (omega arith)
none_below p (suc n) none j lt =
    let parts = none_next (first_below p n) (p n) n none in
    elim (cases_lt j n) [
      | inl below ↦ none_below p n parts.0 j below
      | inr ge ↦ subst (λ i. p i ≡ false) (at_end n j lt ge) parts.1
    ]

-- the first number is below the bound, and passes
pub some_below : (p : ℕ → Bool) (n k : ℕ) → first_below p n ≡ Some k → (k < n) × (p k ≡ true)
some_below p zero k one = absurd (cc)
some_below p (suc n) k one =
    elim (some_next (first_below p n) (p n) n k one) [
      | inl before ↦ let r = some_below p n k before in (omega (arith, r.0), r.1)
      | inr here ↦ (omega (arith, here.1), subst (λ i. p i ≡ true) here.1 here.0)
    ]
