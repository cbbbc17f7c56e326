-- What is reached from the first byte is what is reached from the list of it alone.
use Rattle.std.proofs.Common.{◌≡◌, ℕ, zero, suc, ◌<◌, ◌≤◌, inl, inr, Bool, List, [], ◌∷◌, length, get_or, arith, refl, sym, subst}
use Rattle.std.specs.Prelude.{IsTrue, ◌↔◌}
use Rattle.std.specs.List.{Contains}
use Rattle.std.proofs.lemmas.Bool.{cases_lt}
use Rattle.decoder.specs.OneReading.{OneReadingFacts}
use Rattle.flow_graph.specs.Control.{CodeBytes, IsSuccessor}
use Rattle.flow_graph.specs.Reached.{Reaches, start, step, Follows, LeaderOf, itself, carried}
use Rattle.flow_graph.specs.ReachedFrom.{ReachesFrom, start as start_from, step as step_from, FollowsFrom, LeaderFrom, itself as itself_from, carried as carried_from}
use Rattle.flow_graph.specs.Graphs.{Graph, IsFlowGraph, IsFlowGraphFrom}
use Rattle.flow_graph.proofs.OneReading.{OneAnswerFacts}
use Rattle.flow_graph.proofs.Unique.{least_from, one_leader_from, one_graph_from}

abbrev first : List ℕ
first = 0 ∷ []

has_first : Contains first 0
has_first = (0, omega arith, refl)

only_first : (q : ℕ) → Contains first q → q ≡ 0
only_first q (zero, l, e) = sym e
only_first q (suc k, l, e) = absurd (omega arith)

zero_else : (q : ℕ) → q ≤ 0 → 0 ≡ q
zero_else q h = omega arith

-- what is not the first byte stands behind it
behind : (q : ℕ) → (Contains first q → ⊥) → 0 < q
behind q other = elim (cases_lt 0 q) [ inl l ↦ l | inr g ↦ absurd (other (subst (Contains first) (zero_else q g) has_first)) ]

module _ (code : CodeBytes) where
  reaches_to : (q : ℕ) → Reaches code q → ReachesFrom code first q
  reaches_to _ (start h) = start_from 0 has_first h
  reaches_to _ (step p q h s) = step_from p q (reaches_to p h) s

  reaches_back : (q : ℕ) → ReachesFrom code first q → Reaches code q
  reaches_back _ (start_from q has h) =
      let e = only_first q has in subst (Reaches code) (sym e) (start (subst (λ x. x < length code.bytes) e h))
  reaches_back _ (step_from p q h s) = step p q (reaches_back p h) s

  follows_to : (p q : ℕ) → Follows code p q → FollowsFrom code first p q
  follows_to p q f =
      record {
        no_entry = λ has. let later = f.behind_entry in omega (arith, only_first q has);
        reached = reaches_to p f.reached;
        successor = f.successor;
        ends = f.ends;
        only = f.only;
        alone = λ r h s. f.alone r (reaches_back r h) s;
      }

  follows_back : (p q : ℕ) → FollowsFrom code first p q → Follows code p q
  follows_back p q f =
      record {
        behind_entry = behind q f.no_entry;
        reached = reaches_back p f.reached;
        successor = f.successor;
        ends = f.ends;
        only = f.only;
        alone = λ r h s. f.alone r (reaches_to r h) s;
      }

  leader_to : (l q : ℕ) → LeaderOf code l q → LeaderFrom code first l q
  leader_to l _ (itself m) =
      itself_from (record { reached = reaches_to l m.reached; no_follower = λ p f. m.no_follower p (follows_back p l f) })
  leader_to l _ (carried p q f h) = carried_from p q (follows_to p q f) (leader_to l p h)

  leader_back : (l q : ℕ) → LeaderFrom code first l q → LeaderOf code l q
  leader_back l _ (itself_from m) =
      itself (record { reached = reaches_back l m.reached; no_follower = λ p f. m.no_follower p (follows_to p l f) })
  leader_back l _ (carried_from p q f h) = carried p q (follows_back p q f) (leader_back l p h)

  graph_to : (g : Graph) → IsFlowGraph code g → IsFlowGraphFrom code first g
  graph_to g is =
      record {
        len = is.len;
        flows_len = is.flows_len;
        ascending = is.ascending;
        reached = λ k d h. reaches_to (get_or g.starts k d) (is.reached k d h);
        complete = λ q h. is.complete q (reaches_back q h);
        led = λ k h. leader_to (get_or g.leaders k 0) (get_or g.starts k 0) (is.led k h);
        told = is.told;
      }

  graph_back : (g : Graph) → IsFlowGraphFrom code first g → IsFlowGraph code g
  graph_back g is =
      record {
        len = is.len;
        flows_len = is.flows_len;
        ascending = is.ascending;
        reached = λ k d h. reaches_back (get_or g.starts k d) (is.reached k d h);
        complete = λ q h. is.complete q (reaches_to q h);
        led = λ k h. leader_back (get_or g.leaders k 0) (get_or g.starts k 0) (is.led k h);
        told = is.told;
      }

-- **the graph of some code is the one from its first byte alone**
pub one_entry : (code : CodeBytes) (graph : Graph) → IsFlowGraphFrom code (0 ∷ []) graph ↔ IsFlowGraph code graph
one_entry code graph = (graph_back code graph, graph_to code graph)

-- **a set that is closed along control has the reached offsets**
pub least : (code : CodeBytes) (chosen : ℕ → Bool) → (0 < length code.bytes → IsTrue (chosen 0)) →
    ((p q : ℕ) → IsTrue (chosen p) → IsSuccessor code p q → IsTrue (chosen q)) → (q : ℕ) → Reaches code q → IsTrue (chosen q)
least code chosen entry closed q h = least_from code first chosen at_first closed q (reaches_to code q h)
  where
    at_first : (p : ℕ) → Contains first p → p < length code.bytes → IsTrue (chosen p)
    at_first p has l =
        let e = only_first p has in subst (λ x. IsTrue (chosen x)) (sym e) (entry (subst (λ x. x < length code.bytes) e l))

-- **an offset has one leader**
pub one_leader : (code : CodeBytes) (q leader other : ℕ) → LeaderOf code leader q → LeaderOf code other q → leader ≡ other
one_leader code q leader other h k = one_leader_from code first q leader other (leader_to code leader q h) (leader_to code other q k)

-- **some code has one graph**
pub one_graph : OneReadingFacts → OneAnswerFacts → (code : CodeBytes) (graph other : Graph) → IsFlowGraph code graph → IsFlowGraph code other → graph ≡ other
one_graph one same code graph other a b =
    one_graph_from one same code first first graph other (λ q. (λ has. has, λ has. has)) (graph_to code graph a) (graph_to code other b)
