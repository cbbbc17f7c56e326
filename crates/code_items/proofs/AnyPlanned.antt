-- Which instruction began at an address, and that the plan is well formed.
use Rattle.std.proofs.Common.{◌≡◌, ℕ, zero, suc, ◌+◌, ◌<◌, ◌≤◌, inl, inr, Bool, true, List, length, Option, Some, None, refl, sym, ap, ◌∙◌, subst, arith}
use Rattle.std.specs.Prelude.{map, ◌==◌, IsTrue, slice_index_or}
use Rattle.std.specs.List.{list_all, range_with_len}
use Rattle.std.proofs.lemmas.Bool.{ltb-true, cases_lt, and_from, lt-ltb, le-leb, eq-eqb, ne_eqb}
use Rattle.std.proofs.lemmas.List.{get_or_default}
use Rattle.std.proofs.lemmas.List.FromFn.{length-map-range_with_len}
use Rattle.x86_values.specs.declared.Bits.{Bits}
use Rattle.x86_values.specs.declared.Bits.TheVariants.{B16, B32, B64}
use Rattle.x86_values.specs.Wrapping.{modulo_width}
use Rattle.unlisted.specs.declared.Reference.{Reference}
use Rattle.unlisted.specs.declared.Reference.TheVariants.{Rip, Eip, Branch as ToBranch}
use Rattle.unlisted.specs.declared.Relative.{Relative}
use Rattle.branch_sizes.specs.declared.plan.Branch.{Branch}
use Rattle.branch_sizes.specs.declared.plan.Goal.{Goal}
use Rattle.branch_sizes.specs.declared.plan.Goal.TheVariants.{None as NoGoal, Inside, Outside}
use Rattle.branch_sizes.specs.Plan.{is_fit_reach, is_fit_goal, is_fit_branch}
use Rattle.move_goals.specs.BranchForms.Choices.{choices_of}
use Rattle.move_goals.specs.Items.{no_item}
use Rattle.move_goals.specs.Facts.{FirstFacts}
use Rattle.code_items.specs.declared.any_items.AnyItem.{AnyItem}
use Rattle.code_items.specs.declared.any_items.AnyItem.TheVariants.{Listed, Unlisted}
use Rattle.code_items.specs.AnyItems.{item_ip, any_at, IsAnySound, AreAnySound, AnyAscend}
use Rattle.code_items.specs.AnyPlan.{any_target, first_at, goal_to, any_goal, reference_reach, number_reach, any_choices, any_branch_with, any_branch_at, any_goals}
use Rattle.code_items.specs.AnyLawsBelow.{AnyLawsBelow}

-- ---- the instruction at an address

module _ (firsts : FirstFacts) (items : List AnyItem) (t : ℕ) where
  -- those below a number began before the address, and the others behind it
  pub none_at : (low high : ℕ) → high ≤ low → ((j : ℕ) → j < low → item_ip (any_at items j) < t)
      → ((j : ℕ) → high ≤ j → j < length items → t < item_ip (any_at items j)) → first_at items t ≡ None
  unfolding first_at
  none_at low high le below above =
      firsts.first_below_none (λ j. item_ip (any_at items j) == t) (length items)
      (λ j lt. ne_eqb (item_ip (any_at items j)) t (λ e. elim (cases_lt j low) [
        | inl l ↦ omega (arith, below j l, e)
        | inr g ↦ omega (arith, above j (omega arith) lt, e)
      ]))

  -- one began there, and the addresses ascend
  pub one_at : AnyAscend items → (k : ℕ) → k < length items → item_ip (any_at items k) ≡ t → first_at items t ≡ Some k
  unfolding first_at
  one_at ascend k lt e =
      firsts.first_below_hit (λ j. item_ip (any_at items j) == t) (length items) k lt (eq-eqb (item_ip (any_at items k)) t e)
      (λ j less. ne_eqb (item_ip (any_at items j)) t (λ h. omega (arith, ascend.each j k less lt, e, h)))

  -- it is one of the instructions
  pub at_below : (j : ℕ) → first_at items t ≡ Some j → j < length items
  unfolding first_at
  at_below j e = (firsts.some_below (λ j. item_ip (any_at items j) == t) (length items) j e).0

-- the address of an instruction that is taken out of the list
pub ip-at : (items : List AnyItem) (k : ℕ) (x : AnyItem) (n : ℕ) → k < length items → x ≡ slice_index_or items k x → n ≡ item_ip x → item_ip (any_at items k) ≡ n
ip-at items k x n lt is e = ap item_ip (get_or_default items k (Listed no_item) x lt ∙ sym is) ∙ sym e

module _ (items : List AnyItem) (t : ℕ) (ascend : AnyAscend items) (k : ℕ) (lt : k < length items) where
  -- up to an instruction before the address all are
  pub below-more : item_ip (any_at items k) < t → (j : ℕ) → j < k + 1 → item_ip (any_at items j) < t
  below-more here j less =
      elim (cases_lt j k) [
        | inl before ↦ omega (arith, here, ascend.each j k before lt)
        | inr ge ↦ let e : k ≡ j = omega arith in subst (λ (i : ℕ). item_ip (any_at items i) < t) e here
      ]

  -- from one behind it on all are
  pub above-more : t < item_ip (any_at items k) → (j : ℕ) → k ≤ j → j < length items → t < item_ip (any_at items j)
  above-more here j from within =
      elim (cases_lt k j) [
        | inl behind ↦ omega (arith, here, ascend.each k j behind within)
        | inr ge ↦ let e : k ≡ j = omega arith in subst (λ (i : ℕ). t < item_ip (any_at items i)) e here
      ]

-- ---- the plan is well formed

-- what holds of each value of a stretch holds of the list of them
all_of_range : {X : Type 0} (test : X → Bool) (f : ℕ → X) (a n : ℕ) → ((k : ℕ) → a ≤ k → k < a + n → test (f k) ≡ true)
    → list_all test (map f (range_with_len a n)) ≡ true
all_of_range test f a zero h = refl
all_of_range test f a (suc n) h =
    and_from (test (f a)) (list_all test (map f (range_with_len (a + 1) n))) (h a (omega arith) (omega arith))
    (all_of_range test f (a + 1) n (λ k le lt. h k (omega arith) (omega arith)))

reference-fit : (bits : Bits) (to : Reference) → is_fit_reach (reference_reach bits to) ≡ true
unfolding reference_reach
reference-fit bits Rip = refl
reference-fit bits Eip = refl
reference-fit B16 ToBranch = refl
reference-fit B32 ToBranch = refl
reference-fit B64 ToBranch = refl

number-fit : (bits : Bits) (r : Option Relative) → is_fit_reach (number_reach bits r) ≡ true
number-fit bits None = refl
number-fit bits (Some r) = reference-fit bits r.to

module _ (laws : AnyLawsBelow) (bits : Bits) (items : List AnyItem) where
  to-fit : (n t : ℕ) (o : Option ℕ) → first_at items t ≡ o → is_fit_goal (length items) n (goal_to o t) ≡ true
  to-fit n t (Some j) e = lt-ltb j (length items) (at_below laws.firsts items t j e)
  to-fit n t None e = refl

  -- what is known of the choices of an instruction by its target
  goal-fit : (x : AnyItem) (target : Option ℕ) → any_target bits x ≡ target → is_fit_goal (length items) (length (any_choices bits x)) (any_goal items target) ≡ true
  unfolding any_target
  goal-fit (Listed p) None e = laws.plans.kept-fit bits (length items) p.instr None e
  goal-fit (Unlisted u) None e = refl
  goal-fit x (Some t) e = to-fit (length (any_choices bits x)) t (first_at items t) refl

  -- one with a goal that it may have
  item-fit : (x : AnyItem) → IsAnySound bits x → (goal : Goal) → is_fit_goal (length items) (length (any_choices bits x)) goal ≡ true
      → is_fit_branch (length items) (record { choices = record { items = any_choices bits x }; goal = goal }) ≡ true
  item-fit (Listed p) sound goal fit =
      let cs = choices_of bits p.instr in
      let h = laws.forms.spelled-fit bits (modulo_width bits p.ip) sound.bytes p.instr sound.spelled in
      and_from _ _ (and_from _ _ (lt-ltb 0 (length cs) h.0) (le-leb (length cs) 3 h.1))
      (and_from _ _ h.2 (and_from _ _ h.3 (and_from _ _ fit h.4)))
  item-fit (Unlisted u) sound goal fit =
      and_from _ _ refl
      (and_from _ _ (and_from _ _ (le-leb 1 u.shape.len sound.0) (and_from _ _ (le-leb u.shape.len 15 sound.1) refl))
      (and_from _ _ (and_from _ _ (number-fit bits u.shape.relative) refl)
      (and_from _ _ fit refl)))

  -- **the items of a plan with goals that they may have are fit**
  pub items_fit_with : AreAnySound bits items → (goals : ℕ → Goal)
      → ((k : ℕ) → k < length items → is_fit_goal (length items) (length (any_choices bits (any_at items k))) (goals k) ≡ true)
      → (branches : List Branch) → branches ≡ map (any_branch_with bits items goals) (range_with_len 0 (length items))
      → IsTrue (list_all (is_fit_branch (length branches)) branches)
  items_fit_with sound goals fit branches are =
      let f = any_branch_with bits items goals in
      let len : length branches ≡ length items = ap length are ∙ length-map-range_with_len f 0 (length items) in
      subst (λ (bs : List Branch). list_all (is_fit_branch (length branches)) bs ≡ true) (sym are)
      (subst (λ (n : ℕ). list_all (is_fit_branch n) (map f (range_with_len 0 (length items))) ≡ true) (sym len)
      (all_of_range (is_fit_branch (length items)) f 0 (length items)
      (λ k le lt. let below : k < length items = omega (arith, lt) in item-fit (any_at items k) (sound.each k below) (goals k) (fit k below))))

  -- **the items of the plan are fit**
  pub items_fit : AreAnySound bits items → (branches : List Branch) → branches ≡ map (any_branch_at bits items) (range_with_len 0 (length items))
      → IsTrue (list_all (is_fit_branch (length branches)) branches)
  items_fit sound branches are =
      items_fit_with sound (any_goals bits items) (λ k lt. goal-fit (any_at items k) (any_target bits (any_at items k)) refl) branches are

  -- a goal inside is one of the instructions
  to-below : (t j : ℕ) (o : Option ℕ) → first_at items t ≡ o → goal_to o t ≡ Inside j → j < length items
  to-below t j None is e = absurd (cc)
  to-below t j (Some i) is e = let same : i ≡ j = cc in omega (arith, at_below laws.firsts items t i is, same)

  -- so is one by a target
  pub inside-below : (target : Option ℕ) (j : ℕ) → any_goal items target ≡ Inside j → j < length items
  inside-below None j e = absurd (cc)
  inside-below (Some t) j e = to-below t j (first_at items t) refl e

-- a goal inside that an instruction may have is one of them
pub fit-below : (count choices : ℕ) (goal : Goal) (j : ℕ) → is_fit_goal count choices goal ≡ true → goal ≡ Inside j → j < count
fit-below count choices NoGoal j fit e = absurd (cc)
fit-below count choices (Outside t) j fit e = absurd (cc)
fit-below count choices (Inside i) j fit e = let same : i ≡ j = cc in omega (arith, ltb-true i count fit, same)
