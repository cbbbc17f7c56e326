-- The turns of a walk: its start, the edges from one offset, and its end.
use Rattle.std.proofs.Common.{◌≡◌, ℕ, ◌+◌, ◌<◌, ◌≤◌, ◌⊎◌, inl, inr, List, [], ◌∷◌, ◌++◌, length, length-append, get_or, Bool, Option, Some, None, arith, refl, sym, subst, ap, ◌∙◌}
use Rattle.std.specs.Prelude.{if◌then◌else◌}
use Rattle.std.specs.List.{Contains}
use Rattle.std.proofs.lemmas.Bool.{cases_lt, cases_eq, lt-ltb, le-ltb}
use Rattle.std.proofs.lemmas.List.{get_or_default, get_or_append_left}
use Rattle.flow_graph.specs.declared.exits.Exits.{Exits}
use Rattle.flow_graph.specs.Control.{CodeBytes, IsSuccessor, EndsAt}
use Rattle.flow_graph.specs.Exits.{IsExit, AreExits}
use Rattle.flow_graph.specs.ReachedFrom.{ReachesFrom, start, step, FollowsFrom}
use Rattle.flow_graph.specs.Marks.{marks_after, order_after, AreMarks, FollowsByMark}
use Rattle.flow_graph.specs.Walks.{Edges, IsTreated, IsTreatedOrNext, mark_of_end, next_marks, next_order, IsStarted, FollowsSoFar, IsWalk, Extends}
use Rattle.flow_graph.proofs.Ordering.{if_zero, if_some}
use Rattle.flow_graph.proofs.Arriving.{WithEdge, IsFirstMark, no_follower, follower, arrives}

-- a walk along the same edges
walk_by : (code : CodeBytes) (entries marks order : List ℕ) (gone other : Edges) → ((r t : ℕ) → gone r t → other r t) → ((r t : ℕ) → other r t → gone r t) →
    IsWalk code entries marks order gone → IsWalk code entries marks order other
walk_by code entries marks order gone other there back w =
    record {
      len = w.len;
      unmarked = w.unmarked;
      entry = w.entry;
      reached = w.reached;
      marked = w.marked;
      listed = w.listed;
      apart = w.apart;
      sound = λ p q g. w.sound p q (back p q g);
      arrived = λ p q g. w.arrived p q (back p q g);
      leads = w.leads;
      follows = λ q h.
          let old = w.follows q h in
          let f = old.2 in
          (old.0, old.1, record { edge = there old.0 q f.edge; ends = f.ends; only = f.only; alone = λ r g. f.alone r (back r q g) });
    }

-- a walk along the edges from the first offsets of the order
pub walk_after : (code : CodeBytes) (entries marks order marks' order' : List ℕ) (n : ℕ) → marks' ≡ marks → order' ≡ order → IsWalk code entries marks order (IsTreated code order n) →
    IsWalk code entries marks' order' (IsTreated code order' n)
walk_after code entries marks order marks' order' n m o w =
    subst (λ xs. IsWalk code entries xs order' (IsTreated code order' n)) (sym m) (subst (λ xs. IsWalk code entries marks xs (IsTreated code xs n)) (sym o) w)

-- ---- the start

nothing_treated : (code : CodeBytes) (order : List ℕ) (p q : ℕ) → IsTreated code order 0 p q → ⊥
nothing_treated code order p q t = let e = t.early in omega arith

-- **a walk that stands at all first offsets is one**
module _ (code : CodeBytes) (entries : List ℕ) (count : ℕ) (e : count ≡ length code.bytes) (marks order : List ℕ)
    (w : IsStarted entries count (length entries) marks order) where
  entry_marked : (q : ℕ) → Contains entries q → q < length code.bytes → get_or marks q 0 ≡ 1
  entry_marked q has h =
      let at : get_or entries has.0 0 ≡ q = get_or_default entries has.0 0 q has.1 ∙ has.2 in
      (w.only q (subst (λ x. 0 < get_or marks x 0) at (w.entry has.0 has.1 (omega (arith, at))))).0

  reached_first : (k : ℕ) → k < length order → ReachesFrom code entries (get_or order k 0)
  reached_first k h =
      let first = w.only (get_or order k 0) (w.once.marked k h) in
      let inside = first.1 in
      start (get_or order k 0) first.2 (omega arith)

  leads_first : (q : ℕ) → get_or marks q 0 ≡ 1 → (p : ℕ) → FollowsFrom code entries p q → ⊥
  leads_first q h p f = f.no_entry (w.only q (omega arith)).2

  follows_first : (q : ℕ) → 1 < get_or marks q 0 →
      (p : ℕ) × (p + get_or marks q 0 ≡ q + 1) × FollowsSoFar code (IsTreated code order 0) p q
  follows_first q h = let one = (w.only q (omega arith)).0 in absurd (omega arith)

  -- at the start the entries are walked
  pub starts_walk : IsWalk code entries marks order (IsTreated code order 0)
  starts_walk =
      record {
        len = w.len ∙ e;
        unmarked = w.once.unmarked;
        entry = entry_marked;
        reached = reached_first;
        marked = w.once.marked;
        listed = w.once.listed;
        apart = w.once.apart;
        sound = λ p q t. absurd (nothing_treated code order p q t);
        arrived = λ p q t. absurd (nothing_treated code order p q t);
        leads = leads_first;
        follows = follows_first;
      }

-- ---- a turn

module _ (code : CodeBytes) (entries order : List ℕ) (turn p : ℕ) (here : p ≡ get_or order turn 0) (before : turn < length order) (exits : Exits)
    (right : AreExits code p exits) where
  -- no edge from p was gone along
  not_treated : (marks : List ℕ) → IsWalk code entries marks order (IsTreated code order turn) → (q : ℕ) → IsTreated code order turn p q → ⊥
  not_treated marks w q t =
      let early = t.early in
      let same : t.place ≡ turn = w.apart t.place turn (omega arith) before (t.offset ∙ here) in omega arith

  -- the mark of the end of the instruction
  end_mark : (target : Option ℕ) → exits.target ≡ target → 0 < exits.next → IsFirstMark code entries p (p + exits.next) (mark_of_end target exits.next)
  end_mark None e some = follower (omega arith) (omega arith) (right.next some).1 (λ r s. only r (right.all r s))
    where
      no_target : (x : ℕ) → None ≡ Some x → ⊥
      no_target x k = cc

      only : (r : ℕ) → IsExit p exits r → r ≡ p + exits.next
      only r (inl h) = h.1
      only r (inr h) = absurd (no_target r (sym e ∙ h))
  end_mark (Some t) e some =
      no_follower refl (λ f. (right.target t e).1 (subst (EndsAt code p) (sym (f.only t (right.target t e).0)) (right.next some).1))

  -- an arrival at the end of the instruction
  goes_to_end : (marks : List ℕ) → IsWalk code entries marks order (IsTreated code order turn) → 0 < exits.next →
      IsWalk code entries (marks_after marks (p + exits.next) (mark_of_end exits.target exits.next)) (order_after marks order (p + exits.next)) (IsTreatedOrNext code order turn p exits)
  goes_to_end marks w some =
      let q : ℕ = p + exits.next in
      walk_by code entries (marks_after marks q (mark_of_end exits.target exits.next)) (order_after marks order q) (WithEdge (IsTreated code order turn) p q)
      (IsTreatedOrNext code order turn p exits) there back
      (arrives code entries marks order (IsTreated code order turn) w p q (subst (ReachesFrom code entries) (sym here) (w.reached turn before)) (right.next some).0
      (not_treated marks w q) (mark_of_end exits.target exits.next) (end_mark exits.target refl some))
    where
      there : (r t : ℕ) → WithEdge (IsTreated code order turn) p (p + exits.next) r t → IsTreatedOrNext code order turn p exits r t
      there r t (inl g) = inl g
      there r t (inr g) = inr (g.0, some, g.1)

      back : (r t : ℕ) → IsTreatedOrNext code order turn p exits r t → WithEdge (IsTreated code order turn) p (p + exits.next) r t
      back r t (inl g) = inl g
      back r t (inr g) = inr (g.0, g.2)

  -- where control does not go there
  stays_here : (marks : List ℕ) → IsWalk code entries marks order (IsTreated code order turn) → exits.next ≤ 0 →
      IsWalk code entries marks order (IsTreatedOrNext code order turn p exits)
  stays_here marks w none =
      walk_by code entries marks order (IsTreated code order turn) (IsTreatedOrNext code order turn p exits) (λ r t g. inl g) back w
    where
      back : (r t : ℕ) → IsTreatedOrNext code order turn p exits r t → IsTreated code order turn r t
      back r t (inl g) = g
      back r t (inr g) = let some = g.1 in absurd (omega arith)

  goes_next : (marks : List ℕ) → IsWalk code entries marks order (IsTreated code order turn) →
      IsWalk code entries (next_marks marks p exits) (next_order marks order p exits) (IsTreatedOrNext code order turn p exits)
  goes_next marks w =
      let Next : Bool → Type 0 =
      λ b. IsWalk code entries (if b then marks_after marks (p + exits.next) (mark_of_end exits.target exits.next) else marks)
      (if b then order_after marks order (p + exits.next) else order) (IsTreatedOrNext code order turn p exits) in
      elim (cases_lt 0 exits.next) [
        | inl some ↦ subst Next (sym (lt-ltb 0 exits.next some)) (goes_to_end marks w some)
        | inr none ↦ subst Next (sym (le-ltb 0 exits.next none)) (stays_here marks w none)
      ]

  -- all edges from p
  module _ (longer : List ℕ) (more : Extends order longer) where
    at_turn : get_or longer turn 0 ≡ p
    at_turn = more.same turn before ∙ sym here

    kept : (r t : ℕ) → IsTreated code order turn r t → IsTreated code longer (turn + 1) r t
    kept r t g =
        let early = g.early in
        record { place = g.place; early = omega arith; offset = more.same g.place (omega arith) ∙ g.offset; successor = g.successor }

    own : (r t : ℕ) → r ≡ p → IsSuccessor code p t → IsTreated code longer (turn + 1) r t
    own r t e s =
        record { place = turn; early = omega arith; offset = at_turn ∙ sym e; successor = subst (λ x. IsSuccessor code x t) (sym e) s }

    next_kept : (r t : ℕ) → IsTreatedOrNext code order turn p exits r t → IsTreated code longer (turn + 1) r t
    next_kept r t (inl g) = kept r t g
    next_kept r t (inr g) = own r t g.0 (subst (IsSuccessor code p) (sym g.2) (right.next g.1).0)

    -- an edge from an earlier offset, or from p
    parted : (r t : ℕ) → IsTreated code longer (turn + 1) r t → IsTreated code order turn r t ⊎ ((r ≡ p) × IsExit p exits t)
    parted r t g =
        let early = g.early in
        elim (cases_lt g.place turn) [
          | inl l ↦ inl (record { place = g.place; early = l; offset = sym (more.same g.place (omega arith)) ∙ g.offset; successor = g.successor })
          | inr ge ↦
              let place : turn ≡ g.place = omega arith in
              let e : r ≡ p = sym g.offset ∙ (ap (λ k. get_or longer k 0) (sym place) ∙ at_turn) in
              inr (e, right.all t (subst (λ x. IsSuccessor code x t) e g.successor))
        ]

    without_target : (marks : List ℕ) → exits.target ≡ None → IsWalk code entries marks longer (IsTreatedOrNext code order turn p exits) →
        IsWalk code entries marks longer (IsTreated code longer (turn + 1))
    without_target marks none w =
        walk_by code entries marks longer (IsTreatedOrNext code order turn p exits) (IsTreated code longer (turn + 1)) next_kept
        (λ r t g. back r t (parted r t g)) w
      where
        no_target : (x : ℕ) → None ≡ Some x → ⊥
        no_target x k = cc

        back : (r t : ℕ) → IsTreated code order turn r t ⊎ ((r ≡ p) × IsExit p exits t) → IsTreatedOrNext code order turn p exits r t
        back r t (inl g) = inl g
        back r t (inr (e, inl h)) = inr (e, h.0, h.1)
        back r t (inr (e, inr h)) = absurd (no_target t (sym none ∙ h))

extends_itself : (order : List ℕ) → Extends order order
extends_itself order = record { longer = omega arith; same = λ k h. refl }

extends_on : (a b c : List ℕ) → Extends a b → Extends b c → Extends a c
extends_on a b c first second =
    let l = first.longer in
    let m = second.longer in
    record { longer = omega arith; same = λ k h. second.same k (omega arith) ∙ first.same k h }

-- the order is longer by what was arrived at
extends_queued : (marks order : List ℕ) (q : ℕ) → Extends order (order_after marks order q)
extends_queued marks order q =
    elim (cases_eq (get_or marks q 0) 0) [
      | inl e ↦
          subst (Extends order) (sym (if_zero (get_or marks q 0) (order ++ q ∷ []) order e)) (record {
            longer = omega (arith, length-append order (q ∷ []));
            same = λ k h. get_or_append_left order (q ∷ []) 0 k h;
          })
      | inr ne ↦
          subst (Extends order) (sym (if_some (get_or marks q 0) (order ++ q ∷ []) order (omega arith))) (extends_itself order)
    ]

extends_next : (marks order : List ℕ) (p : ℕ) (exits : Exits) → Extends order (next_order marks order p exits)
extends_next marks order p exits =
    elim (cases_lt 0 exits.next) [
      | inl some ↦ subst Next (sym (lt-ltb 0 exits.next some)) (extends_queued marks order (p + exits.next))
      | inr none ↦ subst Next (sym (le-ltb 0 exits.next none)) (extends_itself order)
    ]
  where
    Next : Bool → Type 0
    Next b = Extends order (if b then order_after marks order (p + exits.next) else order)

-- the order of visits grows by the next offset
pub extends_without_target : (marks order : List ℕ) (p : ℕ) (exits : Exits) (order1 : List ℕ) → order1 ≡ next_order marks order p exits → Extends order order1
extends_without_target marks order p exits order1 e = subst (Extends order) (sym e) (extends_next marks order p exits)

-- and by the target of a branch
pub extends_with_target : (marks order : List ℕ) (p : ℕ) (exits : Exits) (marks1 order1 order2 : List ℕ) (target : ℕ) →
    order1 ≡ next_order marks order p exits → order2 ≡ order_after marks1 order1 target → Extends order order2
extends_with_target marks order p exits marks1 order1 order2 target first second =
    extends_on order order1 order2 (extends_without_target marks order p exits order1 first)
    (subst (Extends order1) (sym second) (extends_queued marks1 order1 target))

-- a reached offset has a byte
pub reached_inside : (code : CodeBytes) (entries : List ℕ) (q : ℕ) → ReachesFrom code entries q → q < length code.bytes
reached_inside code entries _ (start q has h) = h
reached_inside code entries _ (step p q h s) = s.inside

-- and so has one whose turn comes
pub turn_inside : (code : CodeBytes) (entries marks order : List ℕ) (gone : Edges) → IsWalk code entries marks order gone → (turn p : ℕ) → turn < length order →
    p ≡ get_or order turn 0 → p < length code.bytes
turn_inside code entries marks order gone w turn p before here = subst (λ n. n < length code.bytes) (sym here) (reached_inside code entries (get_or order turn 0) (w.reached turn before))

-- **an arrival at the target ends the turn**
module _ (code : CodeBytes) (entries order : List ℕ) (turn p : ℕ) (here : p ≡ get_or order turn 0) (before : turn < length order) (exits : Exits)
    (right : AreExits code p exits) (marks : List ℕ) (w : IsWalk code entries marks order (IsTreated code order turn)) where
  goes_to_target : (target : ℕ) → exits.target ≡ Some target → (marks1 longer : List ℕ) → Extends order longer →
      IsWalk code entries marks1 longer (IsTreatedOrNext code order turn p exits) →
      IsWalk code entries (marks_after marks1 target 1) (order_after marks1 longer target) (IsTreated code (order_after marks1 longer target) (turn + 1))
  goes_to_target target e marks1 longer more w1 =
      walk_by code entries (marks_after marks1 target 1) (order_after marks1 longer target) (WithEdge (IsTreatedOrNext code order turn p exits) p target)
      (IsTreated code (order_after marks1 longer target) (turn + 1)) there back
      (arrives code entries marks1 longer (IsTreatedOrNext code order turn p exits) w1 p target
      (subst (ReachesFrom code entries) (sym here) (w.reached turn before)) (right.target target e).0 fresh 1
      (no_follower refl (λ f. (right.target target e).1 f.ends)))
    where
      fresh : IsTreatedOrNext code order turn p exits p target → ⊥
      fresh (inl g) = not_treated code entries order turn p here before exits right marks w target g
      fresh (inr g) = (right.target target e).1 (subst (EndsAt code p) (sym g.2) (right.next g.1).1)

      all : Extends order (order_after marks1 longer target)
      all = extends_on order longer (order_after marks1 longer target) more (extends_queued marks1 longer target)

      there : (r t : ℕ) → WithEdge (IsTreatedOrNext code order turn p exits) p target r t → IsTreated code (order_after marks1 longer target) (turn + 1) r t
      there r t (inl g) = next_kept code entries order turn p here before exits right (order_after marks1 longer target) all r t g
      there r t (inr g) =
          own code entries order turn p here before exits right (order_after marks1 longer target) all r t g.0
          (subst (IsSuccessor code p) (sym g.1) (right.target target e).0)

      same_target : (x y : ℕ) → Some x ≡ Some y → x ≡ y
      same_target x y k = cc

      back_from : (r t : ℕ) → IsTreated code order turn r t ⊎ ((r ≡ p) × IsExit p exits t) → WithEdge (IsTreatedOrNext code order turn p exits) p target r t
      back_from r t (inl g) = inl (inl g)
      back_from r t (inr (i, inl h)) = inl (inr (i, h.0, h.1))
      back_from r t (inr (i, inr h)) = inr (i, same_target t target (sym h ∙ e))

      back : (r t : ℕ) → IsTreated code (order_after marks1 longer target) (turn + 1) r t → WithEdge (IsTreatedOrNext code order turn p exits) p target r t
      back r t g = back_from r t (parted code entries order turn p here before exits right (order_after marks1 longer target) all r t g)

  -- **the walk behind a turn**, by its two arrivals
  pub turns_with_target : (target : ℕ) → exits.target ≡ Some target → (marks1 order1 marks2 order2 : List ℕ) → marks1 ≡ next_marks marks p exits →
      order1 ≡ next_order marks order p exits → marks2 ≡ marks_after marks1 target 1 → order2 ≡ order_after marks1 order1 target →
      IsWalk code entries marks2 order2 (IsTreated code order2 (turn + 1))
  turns_with_target target e marks1 order1 marks2 order2 m1 o1 m2 o2 =
      let first : IsWalk code entries marks1 order1 (IsTreatedOrNext code order turn p exits) =
      subst (λ xs. IsWalk code entries xs order1 (IsTreatedOrNext code order turn p exits)) (sym m1)
      (subst (λ xs. IsWalk code entries (next_marks marks p exits) xs (IsTreatedOrNext code order turn p exits)) (sym o1)
      (goes_next code entries order turn p here before exits right marks w)) in
      let more : Extends order order1 = subst (Extends order) (sym o1) (extends_next marks order p exits) in
      walk_after code entries (marks_after marks1 target 1) (order_after marks1 order1 target) marks2 order2 (turn + 1) m2 o2
      (goes_to_target target e marks1 order1 more first)

  -- an offset without a target needs no more than its next one
  pub turns_without_target : exits.target ≡ None → (marks1 order1 : List ℕ) → marks1 ≡ next_marks marks p exits →
      order1 ≡ next_order marks order p exits → IsWalk code entries marks1 order1 (IsTreated code order1 (turn + 1))
  turns_without_target none marks1 order1 m1 o1 =
      walk_after code entries (next_marks marks p exits) (next_order marks order p exits) marks1 order1 (turn + 1) m1 o1
      (without_target code entries order turn p here before exits right (next_order marks order p exits) (extends_next marks order p exits)
      (next_marks marks p exits) none (goes_next code entries order turn p here before exits right marks w))

-- ---- the end

-- **where each offset of the order had its turn, the marks are those of all that is reached**
module _ (code : CodeBytes) (entries marks order : List ℕ) (turn : ℕ) (w : IsWalk code entries marks order (IsTreated code order turn)) (done : length order ≤ turn) where
  goes : (p q : ℕ) → 0 < get_or marks p 0 → IsSuccessor code p q → IsTreated code order turn p q
  goes p q h s =
      let at = w.listed p h in
      let early = at.1 in record { place = at.0; early = omega arith; offset = at.2; successor = s }

  all_marked : (q : ℕ) → ReachesFrom code entries q → 0 < get_or marks q 0
  all_marked _ (start q has h) = let m = w.entry q has h in omega arith
  all_marked _ (step p q h s) = w.arrived p q (goes p q (all_marked p h) s)

  marked_reached : (q : ℕ) → 0 < get_or marks q 0 → ReachesFrom code entries q
  marked_reached q h = let at = w.listed q h in subst (ReachesFrom code entries) at.2 (w.reached at.0 at.1)

  all_follow : (q : ℕ) → 1 < get_or marks q 0 → (p : ℕ) × FollowsByMark marks p q × FollowsFrom code entries p q
  all_follow q h =
      let old = w.follows q h in
      let f = old.2 in
      let s = w.sound old.0 q f.edge in
      let inside = s.1.inside in (
        old.0,
        (h, old.1),
        record {
          no_entry = λ has. let m = w.entry q has inside in omega arith;
          reached = s.0;
          successor = s.1;
          ends = f.ends;
          only = f.only;
          alone = λ r there edge. f.alone r (goes r q (all_marked r there) edge);
        },
      )

  -- at the end the marked offsets are those that are reached
  pub ends_walk : AreMarks code entries marks
  ends_walk = record { len = w.len; reached = marked_reached; complete = all_marked; leads = w.leads; follows = all_follow }
