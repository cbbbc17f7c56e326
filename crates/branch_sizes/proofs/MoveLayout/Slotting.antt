-- The number of a goal among those in the slots, and the map that has the numbers.
use Rattle.std.proofs.Common.{◌≡◌, ℕ, suc, ◌+◌, ◌<◌, ◌≤◌, inl, inr, List, [], ◌∷◌, ◌++◌, length, Bool, true, false, not, cond, eqb, ltb, Some, None, arith, refl, sym, subst, ap, ◌∙◌, length-append}
use Rattle.std.proofs.lemmas.Bool.{cases_lt, cases_eq, cond-true, cond-false, cond_both, lt-ltb, le-ltb, eq-eqb, ne_eqb}
use Rattle.std.proofs.lemmas.Cmp.{tied_itself}
use Rattle.std.proofs.lemmas.List.Folds.{position_or_len_push}
use Rattle.std.proofs.lemmas.List.Sums.{prefix_len-le-length}
use Rattle.std.specs.Cmp.{nat_cmp_total}
use Rattle.std.specs.Ordering.{nat_cmp, is_eq}
use Rattle.std.specs.declared.cmp.Ordering.TheVariants.{Less, Equal, Greater}
use Rattle.std.specs.Prelude.{◌==◌, ◌||◌, ◌&&◌}
use Rattle.std.specs.Map.{lookup}
use Rattle.std.specs.BTreeMap.{BTreeMap, get, is_at}
use Rattle.branch_sizes.specs.MoveLayout.Laid.{has_number, with_goal}
use Rattle.branch_sizes.specs.MoveLayout.Slots.{place_among, number_among, IsNumbering}

place_le : (goals : List ℕ) (q : ℕ) → place_among goals q ≤ length goals
place_le goals q = prefix_len-le-length (λ x. not (x == q)) goals

number_yes : (goals : List ℕ) (q : ℕ) → place_among goals q < length goals → number_among goals q ≡ Some (place_among goals q)
number_yes goals q lt = cond-true (ltb (place_among goals q) (length goals)) (Some (place_among goals q)) None (lt-ltb _ _ lt)

number_no : (goals : List ℕ) (q : ℕ) → length goals ≤ place_among goals q → number_among goals q ≡ None
number_no goals q le = cond-false (ltb (place_among goals q) (length goals)) (Some (place_among goals q)) None (le-ltb _ _ le)

has_step : (b h : Bool) (n m : ℕ) → h ≡ ltb n m → (b || h) ≡ ltb (cond (not b) (1 + n) 0) (suc m)
has_step true h n m e = sym (lt-ltb 0 (suc m) (omega arith))
has_step false h n m e =
    e ∙ elim (cases_lt n m) [
      | inl lt ↦ lt-ltb n m lt ∙ sym (lt-ltb (1 + n) (suc m) (omega arith))
      | inr ge ↦ le-ltb n m ge ∙ sym (le-ltb (1 + n) (suc m) (omega arith))
    ]

-- a goal among some stands before their end
has_place : (goals : List ℕ) (q : ℕ) → has_number goals q ≡ ltb (place_among goals q) (length goals)
has_place [] q = refl
has_place (x ∷ xs) q = has_step (x == q) (has_number xs q) (place_among xs q) (length xs) (has_place xs q)

-- a goal that is found has its number
pub found : (goals : List ℕ) (q n : ℕ) → number_among goals q ≡ Some n → (has_number goals q ≡ true) × (place_among goals q ≡ n)
found goals q n e =
    elim (cases_lt (place_among goals q) (length goals)) [
      | inl lt ↦
          let y = number_yes goals q lt in
          (has_place goals q ∙ lt-ltb _ _ lt, cc)
      | inr ge ↦ let y = number_no goals q ge in absurd (cc)
    ]

-- a goal that is not found would get the next number
pub not_found : (goals : List ℕ) (q : ℕ) → number_among goals q ≡ None → (has_number goals q ≡ false) × (place_among goals q ≡ length goals)
not_found goals q e =
    elim (cases_lt (place_among goals q) (length goals)) [
      | inl lt ↦ let y = number_yes goals q lt in absurd (cc)
      | inr ge ↦ (has_place goals q ∙ le-ltb _ _ ge, omega (arith, place_le goals q))
    ]

-- a goal that is there stays, and one that is not comes last
pub with_old : (goals : List ℕ) (q : ℕ) → has_number goals q ≡ true → with_goal goals true q ≡ goals
with_old goals q h = cond-false (not (has_number goals q)) (goals ++ q ∷ []) goals (ap not h)

-- a new goal is put behind the others
pub with_new : (goals : List ℕ) (q : ℕ) → has_number goals q ≡ false → with_goal goals true q ≡ goals ++ q ∷ []
with_new goals q h = cond-true (not (has_number goals q)) (goals ++ q ∷ []) goals (ap not h)

-- the first place among more goals
pub place_stays : (goals : List ℕ) (g q : ℕ) → place_among goals q < length goals → place_among (goals ++ g ∷ []) q ≡ place_among goals q
place_stays goals g q lt =
    position_or_len_push (λ x. x == q) goals g
    ∙ cond-false _ _ _ (ne_eqb (place_among goals q) (length goals) (λ e. omega arith))

place_after : (goals : List ℕ) (g q : ℕ) → place_among goals q ≡ length goals
    → place_among (goals ++ g ∷ []) q ≡ length goals + cond (eqb g q) 0 1
place_after goals g q e =
    position_or_len_push (λ x. x == q) goals g ∙ cond-true _ _ _ (eq-eqb (place_among goals q) (length goals) e)

-- and has the number that they had as their count
pub place_new : (goals : List ℕ) (g : ℕ) → place_among goals g ≡ length goals → place_among (goals ++ g ∷ []) g ≡ length goals
place_new goals g e = omega (arith, place_after goals g g e, cond-true {A = ℕ} (eqb g g) 0 1 (eq-eqb g g refl))

number_same : (goals : List ℕ) (g : ℕ) → place_among goals g ≡ length goals → number_among (goals ++ g ∷ []) g ≡ Some (length goals)
number_same goals g e =
    number_yes (goals ++ g ∷ []) g (omega (arith, place_new goals g e, length-append goals (g ∷ []))) ∙ ap Some (place_new goals g e)

number_other : (goals : List ℕ) (g q : ℕ) → (g ≡ q → ⊥) → number_among (goals ++ g ∷ []) q ≡ number_among goals q
number_other goals g q ne =
    elim (cases_lt (place_among goals q) (length goals)) [
      | inl lt ↦
          let s = place_stays goals g q lt in
          (number_yes (goals ++ g ∷ []) q (omega (arith, s, length-append goals (g ∷ []))) ∙ ap Some s) ∙ sym (number_yes goals q lt)
      | inr ge ↦
          let a = place_after goals g q (omega (arith, place_le goals q)) in
          number_no (goals ++ g ∷ []) q (omega (arith, a, cond-false {A = ℕ} (eqb g q) 0 1 (ne_eqb g q ne), length-append goals (g ∷ [])))
          ∙ sym (number_no goals q ge)
    ]

at_same : (k : ℕ) → is_at (nat_cmp k) k ≡ true
at_same k = ap is_eq (tied_itself nat_cmp_total k)

at_other : (k q : ℕ) → (k ≡ q → ⊥) → is_at (nat_cmp k) q ≡ false
at_other k q ne =
    cond_both (ltb k q) Less (cond (eqb k q) Equal Greater) (λ o. is_eq o ≡ false)
    (λ e. refl)
    (λ e. ap is_eq (cond-false (eqb k q) Equal Greater (ne_eqb k q ne)))

-- the map with one goal more
pub numbered_more : (numbers more : BTreeMap ℕ ℕ) (goals : List ℕ) (g n : ℕ) → IsNumbering numbers goals → place_among goals g ≡ length goals
    → n ≡ length goals → ((q : ℕ) → get nat_cmp more q ≡ cond (is_at (nat_cmp g) q) (Some n) (get nat_cmp numbers q))
    → IsNumbering more (goals ++ g ∷ [])
numbered_more numbers more goals g n m last count up = record {
  each = λ q. elim (cases_eq g q) [
    | inl same ↦
        (up q ∙ cond-true _ _ _ (subst (λ x. is_at (nat_cmp g) x ≡ true) same (at_same g)))
        ∙ (ap Some count ∙ subst (λ x. Some (length goals) ≡ number_among (goals ++ g ∷ []) x) same (sym (number_same goals g last)))
    | inr ne ↦ (up q ∙ cond-false _ _ _ (at_other g q ne)) ∙ (m.each q ∙ sym (number_other goals g q ne))
  ];
}

-- the map without goals
pub numbered_none : (numbers : BTreeMap ℕ ℕ) → numbers.entries ≡ [] → IsNumbering numbers []
numbered_none numbers e = record { each = λ q. ap (λ es. lookup (is_at (nat_cmp q)) es) e }

-- a goal that is there stays where it is, and one that is far is there afterwards
pub stays_with : (goals : List ℕ) (far : Bool) (g q : ℕ) → place_among goals q < length goals
    → (place_among (with_goal goals far g) q ≡ place_among goals q) × (place_among (with_goal goals far g) q < length (with_goal goals far g))
stays_with goals far g q lt = (
  cond_both (far && not (has_number goals g)) (goals ++ g ∷ []) goals (λ xs. place_among xs q ≡ place_among goals q)
      (λ e. place_stays goals g q lt) (λ e. refl),
  cond_both (far && not (has_number goals g)) (goals ++ g ∷ []) goals (λ xs. place_among xs q < length xs)
      (λ e. omega (arith, place_stays goals g q lt, length-append goals (g ∷ []))) (λ e. lt),
)

-- a goal that was added has a number below the count
pub is_there : (goals : List ℕ) (g : ℕ) → place_among (with_goal goals true g) g < length (with_goal goals true g)
is_there goals g =
    elim (cases_lt (place_among goals g) (length goals)) [
      | inl lt ↦ (stays_with goals true g g lt).1
      | inr ge ↦
          let last : place_among goals g ≡ length goals = omega (arith, place_le goals g) in
          subst (λ xs. place_among xs g < length xs) (sym (with_new goals g (has_place goals g ∙ le-ltb _ _ ge)))
          (omega (arith, place_new goals g last, length-append goals (g ∷ [])))
    ]

-- adding a goal adds at most one
pub length-with_goal : (goals : List ℕ) (far : Bool) (g : ℕ) → length (with_goal goals far g) ≤ length goals + 1
length-with_goal goals far g =
    cond_both (far && not (has_number goals g)) (goals ++ g ∷ []) goals (λ xs. length xs ≤ length goals + 1)
    (λ e. omega (arith, length-append goals (g ∷ []))) (λ e. omega arith)
