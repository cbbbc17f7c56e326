-- An arrival at an offset goes on with a walk.
use Rattle.std.proofs.Common.{◌≡◌, ℕ, ◌+◌, ◌<◌, ◌⊎◌, inl, inr, List, [], ◌∷◌, ◌++◌, length, get_or, set, arith, refl, sym, subst, ◌∙◌, length-set}
use Rattle.std.specs.List.{Contains}
use Rattle.std.proofs.lemmas.Bool.{cases_eq}
use Rattle.flow_graph.specs.Control.{CodeBytes, IsSuccessor, EndsAt}
use Rattle.flow_graph.specs.ReachedFrom.{ReachesFrom, step, FollowsFrom}
use Rattle.flow_graph.specs.Marks.{marks_after, order_after}
use Rattle.flow_graph.specs.Walks.{Edges, FollowsSoFar, IsOrder, IsWalk}
use Rattle.flow_graph.proofs.Ordering.{if_zero, if_some, at_same, at_other, stays, each_new, order_more, order_again}

-- the edges, and one more
abbrev pub WithEdge : Edges → ℕ → ℕ → Edges
WithEdge gone p q r t = gone r t ⊎ ((r ≡ p) × (t ≡ q))

-- a mark for the first arrival at q along an edge from p
pub data IsFirstMark (code : CodeBytes) (entries : List ℕ) (p q first : ℕ) : Type 0 where
  no_follower : first ≡ 1 → (FollowsFrom code entries p q → ⊥) → IsFirstMark code entries p q first
  follower : 1 < first → p + first ≡ q + 1 → EndsAt code p q → ((r : ℕ) → IsSuccessor code p r → r ≡ q) → IsFirstMark code entries p q first

some_mark : (code : CodeBytes) (entries : List ℕ) (p q first : ℕ) → IsFirstMark code entries p q first → 0 < first
some_mark code entries p q first (no_follower e n) = omega arith
some_mark code entries p q first (follower l e ends only) = omega arith

-- the order of a walk
pub order_of : (code : CodeBytes) (entries marks order : List ℕ) (gone : Edges) → IsWalk code entries marks order gone → IsOrder marks order
order_of code entries marks order gone w = record { unmarked = w.unmarked; marked = w.marked; listed = w.listed; apart = w.apart }

module _ (code : CodeBytes) (entries marks order : List ℕ) (gone : Edges) (w : IsWalk code entries marks order gone) (p q : ℕ)
    (there : ReachesFrom code entries p) (edge : IsSuccessor code p q) (fresh : gone p q → ⊥) where
  within : q < length marks
  within = omega (arith, edge.inside, w.len)

  once : IsOrder marks order
  once = order_of code entries marks order gone w

  sound : (r t : ℕ) → WithEdge gone p q r t → ReachesFrom code entries r × IsSuccessor code r t
  sound r t (inl h) = w.sound r t h
  sound r t (inr h) =
      (subst (ReachesFrom code entries) (sym h.0) there, subst (λ x. IsSuccessor code x t) (sym h.0) (subst (IsSuccessor code p) (sym h.1) edge))

  -- whatever q follows, it is p
  only_by_p : (x : ℕ) → FollowsFrom code entries x q → FollowsFrom code entries p q
  only_by_p x f = subst (λ y. FollowsFrom code entries y q) (sym (f.alone p there edge)) f

  -- ---- a new mark of q
  module _ (m : ℕ) (some : 0 < m) where
    same : (j : ℕ) → j ≡ q → get_or (set marks q m) j 0 ≡ m
    same j e = at_same marks order once q within m some j e

    other : (j : ℕ) → (j ≡ q → ⊥) → get_or (set marks q m) j 0 ≡ get_or marks j 0
    other j ne = at_other marks order once q within m some j ne

    arrived : (r t : ℕ) → WithEdge gone p q r t → 0 < get_or (set marks q m) t 0
    arrived r t (inl h) = stays marks order once q within m some t (w.arrived r t h)
    arrived r t (inr h) = omega (arith, same t h.1)

    -- an offset but q follows as before
    follows_other : (t : ℕ) → (t ≡ q → ⊥) → 1 < get_or (set marks q m) t 0 →
        (r : ℕ) × (r + get_or (set marks q m) t 0 ≡ t + 1) × FollowsSoFar code (WithEdge gone p q) r t
    follows_other t ne h =
        let e = other t ne in
        let old = w.follows t (omega (arith, e)) in
        let f = old.2 in (
          old.0,
          omega (arith, e, old.1),
          record {
            edge = inl f.edge;
            ends = f.ends;
            only = f.only;
            alone = λ r g. alone r g;
          },
        )
      where
        alone : (r : ℕ) → WithEdge gone p q r t → r ≡ (w.follows t (omega (arith, other t ne))).0
        alone r (inl g) = (w.follows t (omega (arith, other t ne))).2.alone r g
        alone r (inr g) = absurd (ne g.1)

  -- ---- the first arrival
  module _ (zero_mark : get_or marks q 0 ≡ 0) (first : ℕ) (right : IsFirstMark code entries p q first) where
    some : 0 < first
    some = some_mark code entries p q first right

    more : IsOrder (set marks q first) (order ++ q ∷ [])
    more = order_more marks order once q within first some zero_mark

    leads_q : IsFirstMark code entries p q first → first ≡ 1 → (x : ℕ) → FollowsFrom code entries x q → ⊥
    leads_q (no_follower e none) one x f = none (only_by_p x f)
    leads_q (follower l e ends only) one x f = omega arith

    leads_new : (t : ℕ) → get_or (set marks q first) t 0 ≡ 1 → (x : ℕ) → FollowsFrom code entries x t → ⊥
    leads_new t h x f =
        elim (cases_eq t q) [
          | inl e ↦ leads_q right (sym (same first some t e) ∙ h) x (subst (FollowsFrom code entries x) e f)
          | inr ne ↦ w.leads t (sym (other first some t ne) ∙ h) x f
        ]

    alone_q : (r : ℕ) → WithEdge gone p q r q → r ≡ p
    alone_q r (inl g) = let m = w.arrived r q g in absurd (omega arith)
    alone_q r (inr g) = g.0

    follows_q : IsFirstMark code entries p q first → 1 < first → (r : ℕ) × (r + first ≡ q + 1) × FollowsSoFar code (WithEdge gone p q) r q
    follows_q (no_follower e none) l = absurd (omega arith)
    follows_q (follower l e ends only) k = (p, e, record { edge = inr (refl, refl); ends = ends; only = only; alone = alone_q })

    abbrev FollowsAt : ℕ → ℕ → Type 0
    FollowsAt m t = (r : ℕ) × (r + m ≡ t + 1) × FollowsSoFar code (WithEdge gone p q) r t

    follows_new : (t : ℕ) → 1 < get_or (set marks q first) t 0 → FollowsAt (get_or (set marks q first) t 0) t
    follows_new t h =
        elim (cases_eq t q) [
          | inl e ↦
              let m = same first some t e in
              subst (λ x. FollowsAt x t) (sym m) (subst (FollowsAt first) (sym e) (follows_q right (omega arith)))
          | inr ne ↦ follows_other first some t ne h
        ]

    entry_new : (t : ℕ) → Contains entries t → t < length code.bytes → get_or (set marks q first) t 0 ≡ 1
    entry_new t has h =
        let old = w.entry t has h in
        elim (cases_eq t q) [
          | inl e ↦ let m : get_or marks t 0 ≡ 0 = subst (λ x. get_or marks x 0 ≡ 0) (sym e) zero_mark in absurd (omega arith)
          | inr ne ↦ other first some t ne ∙ old
        ]

    walk_new : IsWalk code entries (set marks q first) (order ++ q ∷ []) (WithEdge gone p q)
    walk_new = record {
      len = omega (arith, length-set marks q first, w.len);
      unmarked = more.unmarked;
      entry = entry_new;
      reached = each_new marks order once q within first some zero_mark (ReachesFrom code entries) w.reached (step p q there edge);
      marked = more.marked;
      listed = more.listed;
      apart = more.apart;
      sound = sound;
      arrived = arrived first some;
      leads = leads_new;
      follows = follows_new;
    }

  -- ---- another arrival
  module _ (some_mark_there : 0 < get_or marks q 0) where
    one : 0 < 1
    one = omega arith

    again : IsOrder (set marks q 1) order
    again = order_again marks order once q within 1 one some_mark_there

    -- it follows nothing: p leads there, and another did before
    leads_q_again : (x : ℕ) → FollowsFrom code entries x q → ⊥
    leads_q_again x f =
        elim (cases_eq (get_or marks q 0) 1) [
          | inl e ↦ w.leads q e x f
          | inr ne ↦
              let old = w.follows q (omega arith) in
              let r = w.sound old.0 q old.2.edge in
              let other : old.0 ≡ x = f.alone old.0 r.0 r.1 in
              let own : p ≡ x = f.alone p there edge in
              fresh (subst (λ y. gone y q) (other ∙ sym own) old.2.edge)
        ]

    leads_again : (t : ℕ) → get_or (set marks q 1) t 0 ≡ 1 → (x : ℕ) → FollowsFrom code entries x t → ⊥
    leads_again t h x f =
        elim (cases_eq t q) [
          | inl e ↦ leads_q_again x (subst (FollowsFrom code entries x) e f)
          | inr ne ↦ w.leads t (sym (other 1 one t ne) ∙ h) x f
        ]

    follows_again : (t : ℕ) → 1 < get_or (set marks q 1) t 0 →
        (r : ℕ) × (r + get_or (set marks q 1) t 0 ≡ t + 1) × FollowsSoFar code (WithEdge gone p q) r t
    follows_again t h =
        elim (cases_eq t q) [
          | inl e ↦ absurd (omega (arith, same 1 one t e))
          | inr ne ↦ follows_other 1 one t ne h
        ]

    entry_again : (t : ℕ) → Contains entries t → t < length code.bytes → get_or (set marks q 1) t 0 ≡ 1
    entry_again t has h =
        elim (cases_eq t q) [
          | inl e ↦ same 1 one t e
          | inr ne ↦ other 1 one t ne ∙ w.entry t has h
        ]

    walk_again : IsWalk code entries (set marks q 1) order (WithEdge gone p q)
    walk_again = record {
      len = omega (arith, length-set marks q 1, w.len);
      unmarked = again.unmarked;
      entry = entry_again;
      reached = w.reached;
      marked = again.marked;
      listed = again.listed;
      apart = again.apart;
      sound = sound;
      arrived = arrived 1 one;
      leads = leads_again;
      follows = follows_again;
    }

  -- arriving at an offset keeps the walk sound
  pub arrives : (first : ℕ) → IsFirstMark code entries p q first →
      IsWalk code entries (marks_after marks q first) (order_after marks order q) (WithEdge gone p q)
  arrives first right =
      elim (cases_eq (get_or marks q 0) 0) [
        | inl e ↦
            let m = if_zero (get_or marks q 0) first 1 e in
            let o = if_zero (get_or marks q 0) (order ++ q ∷ []) order e in
            subst (λ xs. IsWalk code entries (marks_after marks q first) xs (WithEdge gone p q)) (sym o)
            (subst (λ n. IsWalk code entries (set marks q n) (order ++ q ∷ []) (WithEdge gone p q)) (sym m) (walk_new e first right))
        | inr ne ↦
            let h : 0 < get_or marks q 0 = omega arith in
            let m = if_some (get_or marks q 0) first 1 h in
            let o = if_some (get_or marks q 0) (order ++ q ∷ []) order h in
            subst (λ xs. IsWalk code entries (marks_after marks q first) xs (WithEdge gone p q)) (sym o)
            (subst (λ n. IsWalk code entries (set marks q n) order (WithEdge gone p q)) (sym m) (walk_again h))
      ]
