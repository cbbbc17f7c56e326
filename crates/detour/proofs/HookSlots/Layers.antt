-- Layers: of the hooks of one function one lies over the other, as they are made and removed.
use Rattle.std.proofs.Common.{◌≡◌, ℕ, ◌+◌, ◌<◌, ◌≤◌, ◌⊎◌, inl, inr, Bool, true, not, List, [], ◌∷◌, get_or, filter, find, count_by, cond, rules, arith, ap, refl, subst, sym, ◌∙◌, false, nat_lt, nat_eq, Option, Some, None}
use Rattle.std.specs.Prelude.{All, AllPairs}
use Rattle.std.proofs.lemmas.Bool.{cases_Bool, eqb-true, eqb-false, ltb-true, ltb-false, le-ltb}
use Rattle.std.proofs.lemmas.List.Elements.{All-nil, All-cons, All-head, All-tail, All-weaker, All-filter}
use Rattle.std.proofs.lemmas.List.Sums.{sum_by-cons}
use Rattle.std.proofs.lemmas.List.Kept.{AllPairs-filter}
use Rattle.code_region.specs.LiveEntries.Order.{AreAscending, with_entry, without_entry, live_entry}
use Rattle.detour.specs.declared.hook_slots.making.Hook.{Hook}
use Rattle.detour.specs.HookSlots.State.{hook_place}
use Rattle.detour.specs.HookSlots.Layers.{hooks_of, later, last_of, over_layer, IsOverOrUnder, IsCounted, AreLayered, LiesOver, IsCoveredBy, cover_of, covered_by}
use Rattle.detour.proofs.HookSlots.Lists.{all-with, pairs-head, pairs-tail, pairs-nil, pairs-with}

-- ---- lists

-- what is found is one of them
found-one : {A : Type 0} (p : A → Bool) (P : A → Type 0) (xs : List A) (x : A) → All P xs → find p xs ≡ Some x → P x
found-one p P [] x a e = absurd cc
found-one p P (y ∷ ys) x a e = elim (cases_Bool (p y)) [
  | inl hit ↦ (let f = rw hit at e in let same : y ≡ x = cc in subst P same (All-head P y ys a))
  | inr miss ↦ found-one p P ys x (All-tail P y ys a) (rw miss at e)
]

-- what a filter leaves passes it
all-left : {A : Type 0} (p : A → Bool) (xs : List A) → All (λ x. p x ≡ true) (filter p xs)
all-left p [] = All-nil (λ x. p x ≡ true)
all-left p (x ∷ xs) = elim (cases_Bool (p x)) [
  | inl hit ↦ rw hit (All-cons (λ y. p y ≡ true) x (filter p xs) hit (all-left p xs))
  | inr miss ↦ rw miss (all-left p xs)
]

module _ {A : Type 0} (at : A → ℕ) (p : A → Bool) where
  count-cons : (x : A) (xs : List A) → count_by p (x ∷ xs) ≡ cond (p x) 1 0 + count_by p xs
  count-cons x xs = sum_by-cons (λ y. cond (p y) 1 0) x xs

  -- how many pass with one more
  count-with : (x : A) (xs : List A) → count_by p (with_entry at x xs) ≡ cond (p x) 1 0 + count_by p xs
  count-with x [] = count-cons x []
  count-with x (y ∷ ys) =
      let rest = count-with x ys in
      let longer = count-cons y (with_entry at x ys) in
      let first = count-cons y ys in
      elim (cases_Bool (nat_lt (at y) (at x))) [
        | inl before ↦ rw before (omega (arith, rest, longer, first))
        | inr behind ↦ rw behind (count-cons x (y ∷ ys))
      ]

  unfiltered : (place from : ℕ) (xs : List A) → place < from → AreAscending at from xs → without_entry at place xs ≡ xs
  unfiltered place from [] lt a = refl
  unfiltered place from (x ∷ xs) lt a =
      let first = a.0 in
      elim (cases_Bool (nat_eq (at x) place)) [
        | inl same ↦ (let e = eqb-true (at x) place same in absurd (omega (arith, e, first, lt)))
        | inr other ↦ rw other (ap (λ ys. x ∷ ys) (unfiltered place (at x + 1) xs (omega (arith, first, lt)) a.1))
      ]

  -- how many pass with one less
  count-without : (place from : ℕ) (xs : List A) (x : A) → AreAscending at from xs → live_entry at place xs ≡ Some x
      → count_by p (without_entry at place xs) + cond (p x) 1 0 ≡ count_by p xs
  count-without place from [] x a e = absurd cc
  count-without place from (y ∷ ys) x a e = elim (cases_Bool (nat_eq (at y) place)) [
    | inl same ↦ (
        let f = rw same at e in
        let is : y ≡ x = cc in
        let here = eqb-true (at y) place same in
        let rest = unfiltered place (at y + 1) ys (omega (arith, here)) a.1 in
        let one : A → ℕ = λ z. cond (p z) 1 0 in
        let mine = ap one is in
        let first = count-cons y ys in
        rw (same, rest) (omega (arith, mine, first)))
    | inr other ↦ (
        let rest = count-without place (at y + 1) ys x a.1 (rw other at e) in
        let longer = count-cons y (without_entry at place ys) in
        let first = count-cons y ys in
        rw other (omega (arith, rest, longer, first)))
  ]

-- ---- the last hook of a function

-- no hook of the function lies over the last one
abbrev IsMost : ℕ → Option Hook → Hook → Type 0
IsMost ip None hook = hook.ip ≡ ip → ⊥
IsMost ip (Some last) hook = hook.ip ≡ ip → hook.layer ≤ last.layer

most-later : (ip : ℕ) (hook : Hook) (hooks : List Hook) (last : Option Hook) → All (IsMost ip last) hooks → All (IsMost ip (later (Some hook) last)) (hook ∷ hooks)
most-later ip hook hooks None a =
    All-cons (IsMost ip (Some hook)) hook hooks (λ same. omega arith) (All-weaker (IsMost ip None) (IsMost ip (Some hook)) (λ other never same. absurd (never same)) hooks a)
most-later ip hook hooks (Some last) a = elim (cases_Bool (nat_lt hook.layer last.layer)) [
  | inl less ↦ (
      let lt = ltb-true hook.layer last.layer less in
      rw less (All-cons (IsMost ip (Some last)) hook hooks (λ same. omega (arith, lt)) a))
  | inr more ↦ (
      let le = ltb-false hook.layer last.layer more in
      rw more (All-cons (IsMost ip (Some hook)) hook hooks (λ same. omega arith)
      (All-weaker (IsMost ip (Some last)) (IsMost ip (Some hook)) (λ other most same. (let m = most same in omega (arith, m, le))) hooks a)))
]

last-most : (ip : ℕ) (hooks : List Hook) → All (IsMost ip (last_of ip hooks)) hooks
last-most ip [] = All-nil (IsMost ip None)
last-most ip (hook ∷ hooks) = elim (cases_Bool (nat_eq hook.ip ip)) [
  | inl same ↦ rw same (most-later ip hook hooks (last_of ip hooks) (last-most ip hooks))
  | inr other ↦ rw other (All-cons (IsMost ip (last_of ip hooks)) hook hooks (never (last_of ip hooks) (eqb-false hook.ip ip other)) (last-most ip hooks))
]
  where
    never : (last : Option Hook) → (hook.ip ≡ ip → ⊥) → IsMost ip last hook
    never None other_ip = other_ip
    never (Some last) other_ip = λ same. absurd (other_ip same)

-- where a hook is not covered, no other of its function lies over it
uncovered-most : (ip layer : ℕ) (hooks : List Hook) → over_layer layer (last_of ip hooks) ≡ None → All (λ (hook : Hook). hook.ip ≡ ip → hook.layer ≤ layer) hooks
uncovered-most ip layer hooks e = by_last (last_of ip hooks) e (last-most ip hooks)
  where
    by_last : (last : Option Hook) → over_layer layer last ≡ None → All (IsMost ip last) hooks → All (λ (hook : Hook). hook.ip ≡ ip → hook.layer ≤ layer) hooks
    by_last None f a = All-weaker (IsMost ip None) (λ (hook : Hook). hook.ip ≡ ip → hook.layer ≤ layer) (λ hook never same. absurd (never same)) hooks a
    by_last (Some last) f a = elim (cases_Bool (nat_lt layer last.layer)) [
      | inl less ↦ (let g = rw less at f in absurd cc)
      | inr more ↦ (
          let le = ltb-false layer last.layer more in
          All-weaker (IsMost ip (Some last)) (λ (hook : Hook). hook.ip ≡ ip → hook.layer ≤ layer) (λ hook most same. (let m = most same in omega (arith, m, le))) hooks a)
    ]

-- where the last hook of a function stands
record IsLastAt (ip from : ℕ) (hooks : List Hook) (last : Hook) : Type 0 where
  of : last.ip ≡ ip
  behind : from ≤ last.place
  stands : live_entry hook_place last.place hooks ≡ Some last

last-here : (ip from : ℕ) (hook : Hook) (hooks : List Hook) (last : Hook) → from ≤ hook.place → hook.ip ≡ ip → hook ≡ last → IsLastAt ip from (hook ∷ hooks) last
last-here ip from hook hooks last first same is =
    let one : nat_eq hook.place hook.place ≡ true = search rules in
    subst (λ (h : Hook). IsLastAt ip from (hook ∷ hooks) h) is (record { of = same; behind = first; stands = rw one refl })

last-there : (ip from : ℕ) (hook : Hook) (hooks : List Hook) (last : Hook) → from ≤ hook.place → IsLastAt ip (hook.place + 1) hooks last
    → IsLastAt ip from (hook ∷ hooks) last
last-there ip from hook hooks last first rest =
    let behind = rest.behind in
    elim (cases_Bool (nat_eq hook.place last.place)) [
      | inl same ↦ (let e = eqb-true hook.place last.place same in absurd (omega (arith, e, behind)))
      | inr other ↦ record { of = rest.of; behind = omega (arith, first, behind); stands = rw other rest.stands }
    ]

last-at : (ip from : ℕ) (hooks : List Hook) (last : Hook) → AreAscending hook_place from hooks → last_of ip hooks ≡ Some last → IsLastAt ip from hooks last
last-at ip from [] last ascend e = absurd cc
last-at ip from (hook ∷ hooks) last ascend e = elim (cases_Bool (nat_eq hook.ip ip)) [
  | inl same ↦ by_rest (λ f. last-at ip (hook.place + 1) hooks last ascend.1 f) (last_of ip hooks) refl (eqb-true hook.ip ip same) (rw same at e)
  | inr other ↦ last-there ip from hook hooks last ascend.0 (last-at ip (hook.place + 1) hooks last ascend.1 (rw other at e))
]
  where
    by_rest : (last_of ip hooks ≡ Some last → IsLastAt ip (hook.place + 1) hooks last)
        → (rest : Option Hook) → last_of ip hooks ≡ rest → hook.ip ≡ ip → later (Some hook) rest ≡ Some last → IsLastAt ip from (hook ∷ hooks) last
    by_rest more None is same f = let g : hook ≡ last = cc in last-here ip from hook hooks last ascend.0 same g
    by_rest below (Some other) is same f = elim (cases_Bool (nat_lt hook.layer other.layer)) [
      | inl less ↦ (
          let g = rw less at f in
          last-there ip from hook hooks last ascend.0 (below (is ∙ g)))
      | inr more ↦ (
          let g = rw more at f in
          let h : hook ≡ last = cc in
          last-here ip from hook hooks last ascend.0 same h)
    ]

-- **what covers a hook lies over it, and is free**
pub covered-is : (hooks : List Hook) (from : ℕ) → AreAscending hook_place from hooks → (place by : ℕ) → covered_by place hooks ≡ Some by → IsCoveredBy hooks place by
covered-is hooks from ascend place by e = by_hook (live_entry hook_place place hooks) refl e
  where
    by_last : (hook : Hook) → live_entry hook_place place hooks ≡ Some hook → (last : Option Hook) → last_of hook.ip hooks ≡ last → over_layer hook.layer last ≡ Some by
        → IsCoveredBy hooks place by
    by_last hook stands None is f = absurd cc
    by_last hook stands (Some last) is f = elim (cases_Bool (nat_lt hook.layer last.layer)) [
      | inl less ↦ (
          let g = rw less at f in
          let there : last.place ≡ by = cc in
          let at = last-at hook.ip from hooks last ascend is in
          let same : nat_lt last.layer last.layer ≡ false = le-ltb last.layer last.layer (omega arith) in
          let last_stands : live_entry hook_place by hooks ≡ Some last = subst (λ (n : ℕ). live_entry hook_place n hooks ≡ Some last) there at.stands in
          let seen : over_layer last.layer (last_of last.ip hooks) ≡ None =
          ap (λ (n : ℕ). over_layer last.layer (last_of n hooks)) at.of ∙ (ap (λ (o : Option Hook). over_layer last.layer o) is ∙ rw same refl) in
          record {
            hook = hook;
            last = last;
            stands = stands;
            last_stands = last_stands;
            over = (at.of, ltb-true hook.layer last.layer less);
            free = ap (λ (o : Option Hook). cover_of o hooks) last_stands ∙ seen;
          })
      | inr more ↦ (let g = rw more at f in absurd cc)
    ]

    by_hook : (o : Option Hook) → live_entry hook_place place hooks ≡ o → cover_of o hooks ≡ Some by → IsCoveredBy hooks place by
    by_hook None stands f = absurd cc
    by_hook (Some hook) stands f = by_last hook stands (last_of hook.ip hooks) refl f

-- **over a hook that nothing covers no live hook lies**
pub free-is : (hooks : List Hook) (place : ℕ) (hook : Hook) → live_entry hook_place place hooks ≡ Some hook → covered_by place hooks ≡ None
    → All (λ (other : Hook). LiesOver other hook → ⊥) hooks
free-is hooks place hook stands e =
    let bare : over_layer hook.layer (last_of hook.ip hooks) ≡ None = subst (λ (o : Option Hook). cover_of o hooks ≡ None) stands e in
    All-weaker (λ (other : Hook). other.ip ≡ hook.ip → other.layer ≤ hook.layer) (λ (other : Hook). LiesOver other hook → ⊥)
    (λ other most over. (let le = most over.0 in let lt = over.1 in omega (arith, le, lt))) hooks (uncovered-most hook.ip hook.layer hooks bare)

-- ---- layers

-- those of no hooks
pub layers-none : AreLayered []
layers-none = record { ordered = pairs-nil IsOverOrUnder; counted = All-nil (IsCounted []) }

module _ (hooks : List Hook) (kept : AreLayered hooks) where
  -- one more, over all that its function has
  pub layers-with : (hook : Hook) → hook.layer ≡ hooks_of hook.ip hooks → AreLayered (with_entry hook_place hook hooks)
  layers-with hook is =
      let after = with_entry hook_place hook hooks in
      let mine = count-with hook_place (λ other. nat_eq other.ip hook.ip) hook hooks in
      record {
        ordered = pairs-with IsOverOrUnder hook_place hook hooks
            (All-weaker (IsCounted hooks) (IsOverOrUnder hook) (λ other few same. inr (lower other few (sym same))) hooks kept.counted)
            (All-weaker (IsCounted hooks) (λ other. IsOverOrUnder other hook) (λ other few same. inl (lower other few same)) hooks kept.counted)
            kept.ordered;
        counted = all-with hook_place (IsCounted after) hook hooks here
            (All-weaker (IsCounted hooks) (IsCounted after) (λ other few. more other few) hooks kept.counted);
      }
    where
      lower : (other : Hook) → IsCounted hooks other → other.ip ≡ hook.ip → other.layer < hook.layer
      lower other few same =
          let e : hooks_of other.ip hooks ≡ hooks_of hook.ip hooks = ap (λ (n : ℕ). hooks_of n hooks) same in
          omega (arith, few, e, is)

      more : (other : Hook) → IsCounted hooks other → IsCounted (with_entry hook_place hook hooks) other
      more other few = let e = count-with hook_place (λ one. nat_eq one.ip other.ip) hook hooks in omega (arith, few, e)

      here : IsCounted (with_entry hook_place hook hooks) hook
      here =
          let e = count-with hook_place (λ other. nat_eq other.ip hook.ip) hook hooks in
          let one : nat_eq hook.ip hook.ip ≡ true = search rules in
          let f : hooks_of hook.ip (with_entry hook_place hook hooks) ≡ 1 + hooks_of hook.ip hooks = rw one at e in
          omega (arith, f, is)

  -- one less, over which no other lies
  module _ (place from : ℕ) (hook : Hook) (ascend : AreAscending hook_place from hooks) (stands : live_entry hook_place place hooks ≡ Some hook)
      (bare : over_layer hook.layer (last_of hook.ip hooks) ≡ None) where
    abbrev IsUnder : Hook → Type 0
    IsUnder other = (other.place ≡ place) ⊎ (other.ip ≡ hook.ip → other.layer < hook.layer)

    strict : (other : Hook) → (other.ip ≡ hook.ip → other.layer ≤ hook.layer) → (other.ip ≡ hook.ip → (other.layer < hook.layer) ⊎ (hook.layer < other.layer))
        → other.ip ≡ hook.ip → other.layer < hook.layer
    strict other most order same = let le = most same in elim (order same) [
      | inl lt ↦ lt
      | inr gt ↦ absurd (omega (arith, le, gt))
    ]

    all-under : (xs : List Hook) → AllPairs IsOverOrUnder xs → All (λ (other : Hook). other.ip ≡ hook.ip → other.layer ≤ hook.layer) xs
        → live_entry hook_place place xs ≡ Some hook → All IsUnder xs
    all-under [] pairs most e = absurd cc
    all-under (x ∷ xs) pairs most e =
        let most_x = All-head (λ (other : Hook). other.ip ≡ hook.ip → other.layer ≤ hook.layer) x xs most in
        let most_xs = All-tail (λ (other : Hook). other.ip ≡ hook.ip → other.layer ≤ hook.layer) x xs most in
        elim (cases_Bool (nat_eq x.place place)) [
          | inl same ↦ (
              let f = rw same at e in
              let is : x ≡ hook = cc in
              let over : All (IsOverOrUnder hook) xs = subst (λ (h : Hook). All (IsOverOrUnder h) xs) is (pairs-head IsOverOrUnder x xs pairs) in
              All-cons IsUnder x xs (inl (eqb-true x.place place same))
              (λ k d lt. inr (strict (get_or xs k d) (most_xs k d lt) (λ eq. swapped (get_or xs k d) (over k d lt (sym eq))))))
          | inr other ↦ (
              let g : live_entry hook_place place xs ≡ Some hook = rw other at e in
              let order = found-one (λ other. nat_eq other.place place) (IsOverOrUnder x) xs hook (pairs-head IsOverOrUnder x xs pairs) g in
              All-cons IsUnder x xs (inr (strict x most_x order)) (all-under xs (pairs-tail IsOverOrUnder x xs pairs) most_xs g))
        ]
      where
        swapped : (other : Hook) → (hook.layer < other.layer) ⊎ (other.layer < hook.layer) → (other.layer < hook.layer) ⊎ (hook.layer < other.layer)
        swapped other order = elim order [ inl lt ↦ inr lt | inr gt ↦ inl gt ]

    fewer : (other : Hook) → IsCounted hooks other → IsUnder other → (not (nat_eq other.place place) ≡ true) → IsCounted (without_entry hook_place place hooks) other
    fewer other few under apart =
        let e = count-without hook_place (λ one. nat_eq one.ip other.ip) place from hooks hook ascend stands in
        let mine = found-one (λ other. nat_eq other.place place) (IsCounted hooks) hooks hook kept.counted stands in
        elim (cases_Bool (nat_eq hook.ip other.ip)) [
          | inl same ↦ (
              let f = rw same at e in
              let is : hook.ip ≡ other.ip = eqb-true hook.ip other.ip same in
              let n : hooks_of hook.ip hooks ≡ hooks_of other.ip hooks = ap (λ (n : ℕ). hooks_of n hooks) is in
              let lt : other.layer < hook.layer = elim under [
                | inl there ↦ absurd (elsewhere other there apart)
                | inr lower ↦ lower (sym is)
              ] in
              omega (arith, f, mine, n, lt))
          | inr different ↦ (let f = rw different at e in omega (arith, f, few))
        ]
      where
        elsewhere : (other : Hook) → other.place ≡ place → not (nat_eq other.place place) ≡ true → ⊥
        elsewhere other there apart = let one : nat_eq other.place place ≡ true = search (rules, there) in let f = rw one at apart in cc

    -- what is left has its layers
    pub layers-without : AreLayered (without_entry hook_place place hooks)
    layers-without =
        let others : Hook → Bool = λ other. not (nat_eq other.place place) in
        let left = without_entry hook_place place hooks in
        let few = All-filter others (IsCounted hooks) hooks kept.counted in
        let under = All-filter others IsUnder hooks (all-under hooks kept.ordered (uncovered-most hook.ip hook.layer hooks bare) stands) in
        let apart = all-left others hooks in
        record {
          ordered = AllPairs-filter IsOverOrUnder others hooks kept.ordered;
          counted = λ k d lt. fewer (get_or left k d) (few k d lt) (under k d lt) (apart k d lt);
        }
