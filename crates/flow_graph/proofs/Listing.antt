-- What marks say of leaders, and the graph of some marks.
use Rattle.std.proofs.Common.{◌≡◌, ℕ, ◌+◌, ◌-◌, ◌<◌, ◌≤◌, inl, inr, List, length, get_or, arith, sym, subst}
use Rattle.std.proofs.lemmas.Bool.{cases_lt}
use Rattle.std.proofs.lemmas.List.{get_or_past, get_or_default}
use Rattle.flow_graph.specs.Control.{CodeBytes}
use Rattle.flow_graph.specs.ReachedFrom.{ReachesFrom, FollowsFrom, LeaderFrom, itself as leader_itself, carried as leader_carried}
use Rattle.flow_graph.specs.Marks.{FollowsByMark, AreMarks, AreChained, LeaderByMarks, itself, carried, AreMarkedBelow}
use Rattle.flow_graph.specs.Told.{Tells, MarkedAreTold, AreFlowsOf}
use Rattle.flow_graph.specs.Graphs.{IsFlowGraphFrom}
use Rattle.flow_graph.proofs.Telling.{Flows}

-- ---- a leader

-- a follower has the leader of the offset that it follows, which stands before it
pub record FollowsBack (marks : List ℕ) (offset : ℕ) : Type 0 where
  pub before : offset + 1 - get_or marks offset 0 < offset
  pub some : 0 < get_or marks (offset + 1 - get_or marks offset 0) 0
  pub by_mark : FollowsByMark marks (offset + 1 - get_or marks offset 0) offset

-- a reached offset that continues a block has one before it
pub follows_back : (marks : List ℕ) (offset : ℕ) → AreChained marks → 1 < get_or marks offset 0 → FollowsBack marks offset
follows_back marks offset chained h =
    let back = chained offset h in
    let sum = back.1.1 in
    let e : back.0 ≡ offset + 1 - get_or marks offset 0 = omega arith in
    record {
      before = omega arith;
      some = subst (λ x. 0 < get_or marks x 0) e back.2;
      by_mark = subst (λ x. FollowsByMark marks x offset) e back.1;
    }

-- an offset that continues a block has the leader of that block
pub leader_carried_on : (marks leaders : List ℕ) (offset leader : ℕ) → AreChained marks →
    ((q : ℕ) → q < offset → 0 < get_or marks q 0 → LeaderByMarks marks (get_or leaders q 0) q) →
    1 < get_or marks offset 0 → leader ≡ get_or leaders (offset + 1 - get_or marks offset 0) 0 → LeaderByMarks marks leader offset
leader_carried_on marks leaders offset leader chained before h e =
    let back = follows_back marks offset chained h in
    let p : ℕ = offset + 1 - get_or marks offset 0 in
    carried p offset back.by_mark (subst (λ x. LeaderByMarks marks x p) (sym e) (before p back.before back.some))

-- an offset that begins a block is its own leader
pub leader_is_itself : (marks : List ℕ) (offset : ℕ) → get_or marks offset 0 ≤ 1 → 0 < get_or marks offset 0 → LeaderByMarks marks offset offset
leader_is_itself marks offset h some = itself (omega arith)

-- ---- the graph of some marks

module _ (code : CodeBytes) (entries marks : List ℕ) (right : AreMarks code entries marks) where
  -- the marked offsets make basic blocks
  pub chained : AreChained marks
  chained q h = let f = right.follows q h in (f.0, f.1, right.complete f.0 f.2.reached)

  leader : (l q : ℕ) → LeaderByMarks marks l q → LeaderFrom code entries l q
  leader l _ (itself e) = leader_itself (record { reached = right.reached l (omega arith); no_follower = right.leads l e })
  leader l _ (carried p q by h) =
      let f = right.follows q by.0 in
      let s = f.1.1 in
      let t = by.1 in
      let e : f.0 ≡ p = omega arith in
      leader_carried p q (subst (λ x. FollowsFrom code entries x q) e f.2) (leader l p h)

  inside : (q : ℕ) → 0 < get_or marks q 0 → q < length marks
  inside q h = elim (cases_lt q (length marks)) [ inl l ↦ l | inr g ↦ absurd (omega (arith, get_or_past marks q 0 g)) ]

  -- the listed offsets, leaders and flows are the graph
  pub graph_right : (starts leaders : List ℕ) (told flows : Flows) → AreMarkedBelow marks (length marks) starts leaders → MarkedAreTold code marks told →
      AreFlowsOf told starts flows → IsFlowGraphFrom code entries (record { starts = starts; leaders = leaders; flows = flows })
  graph_right starts leaders told flows b t f =
      record {
        len = b.len;
        flows_len = f.len;
        ascending = b.ascending;
        reached = λ k d h. subst (ReachesFrom code entries) (get_or_default starts k 0 d h) (right.reached (get_or starts k 0) (b.marked k h));
        complete = λ q h. let m = right.complete q h in b.complete q (inside q m) m;
        led = λ k h. leader (get_or leaders k 0) (get_or starts k 0) (b.led k h);
        told = λ k h. subst (Tells code (get_or starts k 0)) (sym (f.each k h)) (t.each (get_or starts k 0) (b.marked k h));
      }
