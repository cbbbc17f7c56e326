-- There is one leader of an offset, and one graph of some code from the same first offsets.
use Rattle.std.proofs.Common.{◌≡◌, ℕ, zero, suc, ◌<◌, ◌≤◌, inl, inr, Bool, List, length, get_or, arith, refl, sym, subst, ap, ◌∙◌}
use Rattle.std.specs.Prelude.{IsTrue, ◌↔◌}
use Rattle.std.specs.List.{Contains}
use Rattle.std.specs.List.Sorted.{IsStrictlyIncreasing}
use Rattle.std.proofs.lemmas.Bool.{cases_lt}
use Rattle.std.proofs.lemmas.List.{ext_get_or, get_or_default}
use Rattle.std.proofs.lemmas.List.Kept.{AllPairs-from_increasing}
use Rattle.flow_graph.specs.Control.{CodeBytes, IsSuccessor}
use Rattle.flow_graph.specs.ReachedFrom.{ReachesFrom, start, step, FollowsFrom, IsLeaderFrom, LeaderFrom, itself, carried}
use Rattle.flow_graph.specs.Told.{Tells, next_by_default, told_at}
use Rattle.decoder.specs.OneReading.{OneReadingFacts}
use Rattle.flow_graph.proofs.OneReading.{OneAnswerFacts}
use Rattle.flow_graph.proofs.Telling.{Flows, told_same}
use Rattle.flow_graph.specs.Graphs.{Graph, IsFlowGraphFrom}

-- **a set that is closed along control has the reached offsets**
pub least_from : (code : CodeBytes) (entries : List ℕ) (chosen : ℕ → Bool) → ((q : ℕ) → Contains entries q → q < length code.bytes → IsTrue (chosen q)) →
    ((p q : ℕ) → IsTrue (chosen p) → IsSuccessor code p q → IsTrue (chosen q)) → (q : ℕ) → ReachesFrom code entries q → IsTrue (chosen q)
least_from code entries chosen entry closed _ (start q has h) = entry q has h
least_from code entries chosen entry closed _ (step p q h s) = closed p q (least_from code entries chosen entry closed p h) s

-- an offset that follows none is its own leader
own_leader : (code : CodeBytes) (entries : List ℕ) (q : ℕ) → IsLeaderFrom code entries q → (leader : ℕ) → LeaderFrom code entries leader q → q ≡ leader
own_leader code entries _ l leader (itself m) = refl
own_leader code entries _ l leader (carried p q f h) = absurd (l.no_follower p f)

-- an offset that follows another has its leader
carried_leader : (code : CodeBytes) (entries : List ℕ) (p q : ℕ) → FollowsFrom code entries p q → (leader : ℕ) → LeaderFrom code entries leader q →
    LeaderFrom code entries leader p
carried_leader code entries p _ f leader (itself m) = absurd (m.no_follower p f)
carried_leader code entries p _ f leader (carried r q g h) = subst (LeaderFrom code entries leader) (f.alone r g.reached g.successor) h

leaders_same : (code : CodeBytes) (entries : List ℕ) (leader other q : ℕ) → LeaderFrom code entries leader q → LeaderFrom code entries other q → leader ≡ other
leaders_same code entries leader other _ (itself l) h = own_leader code entries leader l other h
leaders_same code entries leader other _ (carried p q f h) k =
    leaders_same code entries leader other p h (carried_leader code entries p q f other k)

-- **an offset has one leader**
pub one_leader_from : (code : CodeBytes) (entries : List ℕ) (q leader other : ℕ) → LeaderFrom code entries leader q → LeaderFrom code entries other q → leader ≡ other
one_leader_from code entries q leader other h k = leaders_same code entries leader other q h k

-- ---- the same first offsets, in another order

reaches_by : (code : CodeBytes) (a b : List ℕ) → ((q : ℕ) → Contains a q → Contains b q) → (q : ℕ) → ReachesFrom code a q → ReachesFrom code b q
reaches_by code a b there _ (start q has h) = start q (there q has) h
reaches_by code a b there _ (step p q h s) = step p q (reaches_by code a b there p h) s

module _ (code : CodeBytes) (a b : List ℕ) (there : (q : ℕ) → Contains a q → Contains b q) (back : (q : ℕ) → Contains b q → Contains a q) where
  follows_by : (p q : ℕ) → FollowsFrom code a p q → FollowsFrom code b p q
  follows_by p q f =
      record {
        no_entry = λ has. f.no_entry (back q has);
        reached = reaches_by code a b there p f.reached;
        successor = f.successor;
        ends = f.ends;
        only = f.only;
        alone = λ r h s. f.alone r (reaches_by code b a back r h) s;
      }

module _ (code : CodeBytes) (a b : List ℕ) (there : (q : ℕ) → Contains a q → Contains b q) (back : (q : ℕ) → Contains b q → Contains a q) where
  leader_by : (l q : ℕ) → LeaderFrom code a l q → LeaderFrom code b l q
  leader_by l _ (itself m) =
      itself (record { reached = reaches_by code a b there l m.reached; no_follower = λ p f. m.no_follower p (follows_by code b a back there p l f) })
  leader_by l _ (carried p q f h) = carried p q (follows_by code a b there back p q f) (leader_by l p h)

  graph_by : (g : Graph) → IsFlowGraphFrom code a g → IsFlowGraphFrom code b g
  graph_by g is =
      record {
        len = is.len;
        flows_len = is.flows_len;
        ascending = is.ascending;
        reached = λ k d h. reaches_by code a b there (get_or g.starts k d) (is.reached k d h);
        complete = λ q h. is.complete q (reaches_by code b a back q h);
        led = λ k h. leader_by (get_or g.leaders k 0) (get_or g.starts k 0) (is.led k h);
        told = is.told;
      }

-- ---- lists of numbers in strictly ascending order

-- in an ascending list a later number is not less, and a place is found by its number
later : (xs : List ℕ) → IsStrictlyIncreasing xs → (i j : ℕ) → i < j → j < length xs → get_or xs i 0 < get_or xs j 0
later xs up i j l h = AllPairs-from_increasing xs up i j 0 l h

place_of : (xs : List ℕ) (n : ℕ) → Contains xs n → (k : ℕ) × (k < length xs) × (get_or xs k 0 ≡ n)
place_of xs n has = (has.0, has.1, get_or_default xs has.0 0 n has.1 ∙ has.2)

has_place : (xs : List ℕ) (k : ℕ) → k < length xs → Contains xs (get_or xs k 0)
has_place xs k h = (k, h, get_or_default xs k (get_or xs k 0) 0 h)

-- places before k agree
abbrev SameBefore : List ℕ → List ℕ → ℕ → Type 0
SameBefore xs ys k = (i : ℕ) → i < k → i < length xs → (i < length ys) × (get_or xs i 0 ≡ get_or ys i 0)

abbrev Within : List ℕ → List ℕ → Type 0
Within xs ys = (n : ℕ) → Contains xs n → Contains ys n

-- the number at place k of xs stands in ys, and not before k
not_before : (xs ys : List ℕ) → IsStrictlyIncreasing xs → Within xs ys → (k : ℕ) → SameBefore ys xs k → k < length xs →
    (j : ℕ) × (k ≤ j) × (j < length ys) × (get_or ys j 0 ≡ get_or xs k 0)
not_before xs ys up there k same h =
    let at = place_of ys (get_or xs k 0) (there (get_or xs k 0) (has_place xs k h)) in
    elim (cases_lt at.0 k) [
      | inl l ↦
          let e = same at.0 l at.1 in
          let m = later xs up at.0 k l h in absurd (omega (arith, e.1, at.2))
      | inr g ↦ (at.0, g, at.1, at.2)
    ]

-- in an ascending list a number that is not before another is not less
not_less : (xs : List ℕ) → IsStrictlyIncreasing xs → (i j : ℕ) → i ≤ j → j < length xs → get_or xs i 0 ≤ get_or xs j 0
not_less xs up i j l h =
    elim (cases_lt i j) [
      | inl lt ↦ omega (arith, later xs up i j lt h)
      | inr ge ↦ let e : i ≡ j = omega arith in omega (arith, ap (λ k. get_or xs k 0) e)
    ]

same_at : (xs ys : List ℕ) → IsStrictlyIncreasing xs → IsStrictlyIncreasing ys → Within xs ys → Within ys xs → (k : ℕ) → SameBefore xs ys k →
    SameBefore ys xs k → k < length xs → (k < length ys) × (get_or xs k 0 ≡ get_or ys k 0)
same_at xs ys up_x up_y there back k same_x same_y h =
    let j = not_before xs ys up_x there k same_y h in
    let in_y : k < length ys = omega (arith, j.1, j.2) in
    let i = not_before ys xs up_y back k same_x in_y in
    (in_y, omega (arith, not_less ys up_y k j.0 j.1 j.2, j.3, not_less xs up_x k i.0 i.1 i.2, i.3))

module _ (xs ys : List ℕ) (up_x : IsStrictlyIncreasing xs) (up_y : IsStrictlyIncreasing ys) (there : Within xs ys) (back : Within ys xs) where
  same_before : (k : ℕ) → SameBefore xs ys k × SameBefore ys xs k
  same_before zero = (λ i l h. absurd (omega arith), λ i l h. absurd (omega arith))
  same_before (suc k) =
      let old = same_before k in (
        λ i l h. elim (cases_lt i k) [
          | inl lt ↦ old.0 i lt h
          | inr ge ↦
              let e : k ≡ i = omega arith in
              subst (λ n. (n < length ys) × (get_or xs n 0 ≡ get_or ys n 0)) e
              (same_at xs ys up_x up_y there back k old.0 old.1 (omega arith))
        ],
        λ i l h. elim (cases_lt i k) [
          | inl lt ↦ old.1 i lt h
          | inr ge ↦
              let e : k ≡ i = omega arith in
              subst (λ n. (n < length xs) × (get_or ys n 0 ≡ get_or xs n 0)) e
              (same_at ys xs up_y up_x back there k old.1 old.0 (omega arith))
        ],
      )

  same_len : length xs ≡ length ys
  same_len =
      elim (cases_lt (length xs) (length ys)) [
        | inl l ↦ let past = ((same_before (suc (length xs))).1 (length xs) (omega arith) l).0 in absurd (omega arith)
        | inr g ↦ elim (cases_lt (length ys) (length xs)) [
          | inl l ↦ let past = ((same_before (suc (length ys))).0 (length ys) (omega arith) l).0 in absurd (omega arith)
          | inr k ↦ omega arith
        ]
      ]

  same_numbers : xs ≡ ys
  same_numbers = ext_get_or 0 xs ys same_len (λ i h. ((same_before (suc i)).0 i (omega arith) h).1)

-- ---- graphs

starts_within : (code : CodeBytes) (entries : List ℕ) (g h : Graph) → IsFlowGraphFrom code entries g → IsFlowGraphFrom code entries h → Within g.starts h.starts
starts_within code entries g h a b n has =
    let at = place_of g.starts n has in b.complete n (subst (ReachesFrom code entries) at.2 (a.reached at.0 0 at.1))

same_graph : OneReadingFacts → OneAnswerFacts → (code : CodeBytes) (entries : List ℕ) (graph other : Graph) → IsFlowGraphFrom code entries graph → IsFlowGraphFrom code entries other →
    graph ≡ other
same_graph one same code entries g h a b =
    let starts : g.starts ≡ h.starts =
    same_numbers g.starts h.starts a.ascending b.ascending (starts_within code entries g h a b) (starts_within code entries h g b a) in
    let len : length g.starts ≡ length h.starts = ap length starts in
    let leaders : g.leaders ≡ h.leaders =
    ext_get_or 0 g.leaders h.leaders (omega (arith, len, a.len, b.len))
    (λ k l.
    let in_g : k < length g.starts = omega (arith, a.len) in
    let in_h : k < length h.starts = omega (arith, len) in
    one_leader_from code entries (get_or g.starts k 0) (get_or g.leaders k 0) (get_or h.leaders k 0) (a.led k in_g)
    (subst (λ xs. LeaderFrom code entries (get_or h.leaders k 0) (get_or xs k 0)) (sym starts) (b.led k in_h))) in
    let flows : g.flows ≡ h.flows =
    ext_get_or next_by_default g.flows h.flows (omega (arith, len, a.flows_len, b.flows_len))
    (λ k l.
    let in_g : k < length g.starts = omega (arith, a.flows_len) in
    let in_h : k < length h.starts = omega (arith, len) in
    told_same one same code (get_or g.starts k 0) (told_at g.flows k) (told_at h.flows k) (a.told k in_g)
    (subst (λ xs. Tells code (get_or xs k 0) (told_at h.flows k)) (sym starts) (b.told k in_h))) in
    ap (λ xs. make xs g.leaders g.flows) starts ∙ (ap (λ xs. make h.starts xs g.flows) leaders ∙ ap (make h.starts h.leaders) flows)
  where
    make : List ℕ → List ℕ → Flows → Graph
    make s l f = record { starts = s; leaders = l; flows = f }

-- **some code has one graph from the same first offsets**
pub one_graph_from : OneReadingFacts → OneAnswerFacts → (code : CodeBytes) (entries others : List ℕ) (graph other : Graph) → ((q : ℕ) → Contains entries q ↔ Contains others q) →
    IsFlowGraphFrom code entries graph → IsFlowGraphFrom code others other → graph ≡ other
one_graph_from one answers code entries others g h same a b =
    same_graph one answers code entries g h a (graph_by code others entries (λ q has. (same q).1 has) (λ q has. (same q).0 has) h b)
