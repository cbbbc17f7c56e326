-- Which item of a block began at an address.
use Rattle.std.proofs.Common.{◌≡◌, ℕ, ◌-◌, ◌<◌, ◌≤◌, true, false, ◌&&◌, List, length, Some, None, inl, inr, arith, refl, sym, subst, ap, ◌∙◌}
use Rattle.std.proofs.lemmas.Bool.{cases_lt, and_parts, false_from_ne_true, leb-true, ltb-true, le-leb, lt-ltb, eqb-true, eq-eqb}
use Rattle.std.specs.Prelude.{nat_le, nat_lt}
use Rattle.branch_sizes.specs.declared.plan.Goal.TheVariants.{Outside}
use Rattle.move_goals.specs.declared.items.Placed.{Placed}
use Rattle.move_goals.specs.Items.{first_below, item_at}
use Rattle.move_goals.specs.Goals.{begins_at, goal_among}
use Rattle.move_goals.specs.Starts.{Ascend, is_between, first_between, goal_between}
use Rattle.move_goals.proofs.First.{first_below_none, first_below_hit, first_below_congr}

module _ (items : List Placed) (from to t : ℕ) where
  -- an item fails the test where it does not begin at the address
  fails : (j : ℕ) → (from ≤ j → j < to → (item_at items j).ip ≡ t → ⊥) → (is_between from to j && begins_at items t j) ≡ false
  fails j apart =
      false_from_ne_true (is_between from to j && begins_at items t j) (λ h.
      let parts = and_parts (is_between from to j) (begins_at items t j) h in
      let ends = and_parts (nat_le from j) (nat_lt j to) parts.0 in
      apart (leb-true from j ends.0) (ltb-true j to ends.1) (eqb-true (item_at items j).ip t parts.1))

  -- those below a number began before the address, and the others behind it
  pub none_between : (low high : ℕ) → high ≤ low → ((j : ℕ) → from ≤ j → j < low → (item_at items j).ip < t)
      → ((j : ℕ) → high ≤ j → j < to → t < (item_at items j).ip) → first_between items from to t ≡ None
  none_between low high le below above =
      first_below_none (λ j. is_between from to j && begins_at items t j) (length items)
      (λ j lt. fails j (λ a b e. elim (cases_lt j low) [
        | inl l ↦ omega (arith, below j a l, e)
        | inr g ↦ omega (arith, above j (omega arith) b, e)
      ]))

  -- none began there where the addresses ascend and the first of them is behind it
  pub none_before : Ascend items from to → t < (item_at items from).ip → first_between items from to t ≡ None
  none_before ascend behind =
      none_between from from (omega arith) (λ j a l. absurd (omega arith))
      (λ j a b. elim (cases_lt from j) [
        | inl l ↦ omega (arith, behind, ascend.each from j (omega arith) l b)
        | inr g ↦ let e : from ≡ j = omega arith in subst (λ i. t < (item_at items i).ip) e behind
      ])

  -- nor where the last of them is before it
  pub none_behind : Ascend items from to → from < to → (item_at items (to - 1)).ip < t → first_between items from to t ≡ None
  none_behind ascend some before =
      none_between to to (omega arith)
      (λ j a l. elim (cases_lt j (to - 1)) [
        | inl less ↦ omega (arith, before, ascend.each j (to - 1) a less (omega arith))
        | inr g ↦ let e : to - 1 ≡ j = omega arith in subst (λ i. (item_at items i).ip < t) e before
      ])
      (λ j a b. absurd (omega arith))

  -- one began there, and the addresses ascend
  pub one_between : Ascend items from to → to ≤ length items → (k : ℕ) → from ≤ k → k < to → (item_at items k).ip ≡ t
      → first_between items from to t ≡ Some k
  one_between ascend le k fk kt e =
      first_below_hit (λ j. is_between from to j && begins_at items t j) (length items) k (omega arith)
      (rw (le-leb from k fk, lt-ltb k to kt) (eq-eqb (item_at items k).ip t e))
      (λ j lt. fails j (λ a b h. omega (arith, ascend.each j k a lt kt, e, h)))

  -- none of all items began there, where all are among them
  none_at_all : to ≤ length items → to - from ≡ length items → first_between items from to t ≡ None → first_below (begins_at items t) (length items) ≡ None
  none_at_all le all none =
      first_below_congr (begins_at items t) (λ j. is_between from to j && begins_at items t j) (length items)
      (λ j lt. sym (ap (λ b. b && begins_at items t j) (inside j (omega arith) (omega arith)))) ∙ none
    where
      inside : (j : ℕ) → from ≤ j → j < to → is_between from to j ≡ true
      inside j a b = rw (le-leb from j a, lt-ltb j to b) refl

  -- then the target stays
  pub stays : to ≤ length items → to - from ≡ length items → first_between items from to t ≡ None → Outside t ≡ goal_between items from to t
  stays le all none =
      sym (ap (λ o. goal_among o (first_below (begins_at items t) (length items)) t) none ∙ ap (λ o. goal_among None o t) (none_at_all le all none))
