-- Live entries and the live blocks of their region.
use Rattle.std.proofs.Common.{◌≡◌, ℕ, zero, suc, ◌+◌, ◌≤◌, ◌<◌, inl, inr, true, false, List, [], ◌∷◌, length, get_or, filter, find, not, arith, ap, refl, sym, ◌∙◌, nat_lt, nat_eq, Some, None}
use Rattle.std.proofs.lemmas.Bool.{cases_Bool, eqb-true, lt-ltb, le-ltb, ltb-true, ltb-false}
use Rattle.code_region.specs.State.{LiveBlock}
use Rattle.code_region.specs.Placing.{with_block}
use Rattle.code_region.specs.Keeping.{AreLaid}
use Rattle.code_region.specs.LiveEntries.Order.{AreAscending, StandsAt, with_entry, without_entry, live_entry}
use Rattle.code_region.specs.LiveEntries.Keeping.{AreBlocksOf}
use Rattle.code_region.proofs.LiveEntries.Region.{NoneAt}

module _ {A : Type 0} (IsBlock : A → LiveBlock → Type 0) where
  -- there are as many blocks as entries
  pub blocks-count : (xs : List A) (live : List LiveBlock) → AreBlocksOf IsBlock xs live → length xs ≡ length live
  blocks-count [] [] a = refl
  blocks-count [] (b ∷ live) a = absurd a
  blocks-count (x ∷ xs) [] a = absurd a
  blocks-count (x ∷ xs) (b ∷ live) a = ap suc (blocks-count xs live a.1)

  -- the block of an entry
  pub blocks-at : (xs : List A) (live : List LiveBlock) (k : ℕ) (d : A) (no_block : LiveBlock)
      → AreBlocksOf IsBlock xs live → k < length xs → IsBlock (get_or xs k d) (get_or live k no_block)
  blocks-at [] live k d no_block a lt = absurd (omega arith)
  blocks-at (x ∷ xs) [] k d no_block a lt = absurd a
  blocks-at (x ∷ xs) (b ∷ live) zero d no_block a lt = a.0
  blocks-at (x ∷ xs) (b ∷ live) (suc k) d no_block a lt = blocks-at xs live k d no_block a.1 (omega arith)

  module _ (at : A → ℕ) (there : (x : A) (b : LiveBlock) → IsBlock x b → b.place ≡ at x) where
    -- the entries ascend as the blocks do
    pub blocks-ascend : (from limit : ℕ) (xs : List A) (live : List LiveBlock) → AreBlocksOf IsBlock xs live
        → AreLaid from limit live → AreAscending at from xs
    blocks-ascend from limit [] live a laid = tt
    blocks-ascend from limit (x ∷ xs) [] a laid = absurd a
    blocks-ascend from limit (x ∷ xs) (b ∷ live) a laid =
        let p = there x b a.0 in
        let first = laid.0 in
        let some = laid.1 in
        let rest = blocks-ascend (b.place + b.len) limit xs live a.1 laid.3 in
        (omega (arith, p, first), lower (b.place + b.len) (at x + 1) xs (omega (arith, p, some)) rest)
      where
        lower : (high low : ℕ) (ys : List A) → low ≤ high → AreAscending at high ys → AreAscending at low ys
        lower high low [] le h = tt
        lower high low (y ∷ ys) le h = let first = h.0 in (omega (arith, le, first), h.1)

    -- one more
    pub blocks-with : (x : A) (b : LiveBlock) (xs : List A) (live : List LiveBlock) → IsBlock x b → NoneAt (at x) live
        → AreBlocksOf IsBlock xs live → AreBlocksOf IsBlock (with_entry at x xs) (with_block b live)
    blocks-with x b [] [] is none a = (is, tt)
    blocks-with x b [] (other ∷ live) is none a = absurd a
    blocks-with x b (y ∷ xs) [] is none a = absurd a
    blocks-with x b (y ∷ xs) (other ∷ live) is none a =
        let here = there y other a.0 in
        let p = there x b is in
        elim (cases_Bool (nat_lt (at y) (at x))) [
          | inl before ↦ (
              let l = ltb-true (at y) (at x) before in
              let t : nat_lt b.place other.place ≡ false = le-ltb b.place other.place (omega (arith, l, here, p)) in
              rw (before, t) (a.0, blocks-with x b xs live is none.1 a.1))
          | inr behind ↦ (
              let l = ltb-false (at y) (at x) behind in
              let ne : b.place ≡ other.place → ⊥ = λ e. none.0 (sym e ∙ p) in
              let lt = less b.place other.place (omega (arith, l, here, p)) ne in
              let t : nat_lt b.place other.place ≡ true = lt-ltb b.place other.place lt in
              rw (behind, t) (is, a))
        ]
      where
        less : (n m : ℕ) → n ≤ m → (n ≡ m → ⊥) → n < m
        less n m le ne = elim (cases_Bool (nat_lt n m)) [
          | inl lt ↦ ltb-true n m lt
          | inr ge ↦ absurd (ne (omega (arith, le, ltb-false n m ge)))
        ]

    -- one less
    pub blocks-without : (place : ℕ) (xs : List A) (live : List LiveBlock) → AreBlocksOf IsBlock xs live
        → AreBlocksOf IsBlock (without_entry at place xs) (filter (λ b. not (nat_eq b.place place)) live)
    blocks-without place [] [] a = tt
    blocks-without place [] (b ∷ live) a = absurd a
    blocks-without place (x ∷ xs) [] a = absurd a
    blocks-without place (x ∷ xs) (b ∷ live) a =
        let same : nat_eq b.place place ≡ nat_eq (at x) place = ap (λ (n : ℕ). nat_eq n place) (there x b a.0) in
        elim (cases_Bool (nat_eq (at x) place)) [
          | inl here ↦ rw (here, same ∙ here) (blocks-without place xs live a.1)
          | inr other ↦ rw (other, same ∙ other) (a.0, blocks-without place xs live a.1)
        ]

    -- a live block that starts at an address is that of an entry there
    pub blocks-stand : (place : ℕ) (block : LiveBlock) (xs : List A) (live : List LiveBlock)
        → AreBlocksOf IsBlock xs live → find (λ b. nat_eq b.place place) live ≡ Some block → StandsAt at place xs
    blocks-stand place block [] [] a e = absurd cc
    blocks-stand place block [] (b ∷ live) a e = absurd a
    blocks-stand place block (x ∷ xs) [] a e = absurd a
    blocks-stand place block (x ∷ xs) (b ∷ live) a e =
        elim (cases_Bool (nat_eq b.place place)) [
          | inl here ↦ inl (sym (there x b a.0) ∙ eqb-true b.place place here)
          | inr other ↦ inr (blocks-stand place block xs live a.1 (rw other at e))
        ]

    -- where no live block starts, no entry does
    pub blocks-none : (place : ℕ) (xs : List A) (live : List LiveBlock) → AreBlocksOf IsBlock xs live
        → find (λ b. nat_eq b.place place) live ≡ None → without_entry at place xs ≡ xs
    blocks-none place [] live a e = refl
    blocks-none place (x ∷ xs) [] a e = absurd a
    blocks-none place (x ∷ xs) (b ∷ live) a e =
        let same : nat_eq (at x) place ≡ nat_eq b.place place = ap (λ (n : ℕ). nat_eq n place) (sym (there x b a.0)) in
        elim (cases_Bool (nat_eq b.place place)) [
          | inl here ↦ (let f = rw here at e in absurd cc)
          | inr other ↦ rw (same ∙ other) (ap (λ ys. x ∷ ys) (blocks-none place xs live a.1 (rw other at e)))
        ]

    -- nor is one found
    pub blocks-found : (place : ℕ) (xs : List A) (live : List LiveBlock) → AreBlocksOf IsBlock xs live
        → find (λ b. nat_eq b.place place) live ≡ None → live_entry at place xs ≡ None
    blocks-found place [] live a e = refl
    blocks-found place (x ∷ xs) [] a e = absurd a
    blocks-found place (x ∷ xs) (b ∷ live) a e =
        let same : nat_eq (at x) place ≡ nat_eq b.place place = ap (λ (n : ℕ). nat_eq n place) (sym (there x b a.0)) in
        elim (cases_Bool (nat_eq b.place place)) [
          | inl here ↦ (let f = rw here at e in absurd cc)
          | inr other ↦ rw (same ∙ other) (blocks-found place xs live a.1 (rw other at e))
        ]
