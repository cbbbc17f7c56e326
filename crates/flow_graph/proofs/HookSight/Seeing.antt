-- What holds of the offsets of a list holds of those that control reaches.
use Rattle.std.proofs.Common.{◌≡◌, ℕ, zero, suc, ◌<◌, List, [], ◌∷◌, length, get_or, Option, Some, None, Result, arith, refl, sym, subst}
use Rattle.std.specs.Prelude.{◌↔◌}
use Rattle.std.specs.List.{All, Contains}
use Rattle.std.specs.List.Sorted.{IsStrictlyIncreasing}
use Rattle.std.proofs.lemmas.List.Elements.{All-contains, All-from_get_or, All-get_or}
use Rattle.flow_graph.specs.Control.{CodeBytes}
use Rattle.flow_graph.specs.Reached.{Reaches, start as start_one, step as step_one}
use Rattle.flow_graph.specs.ReachedFrom.{ReachesFrom, start, step}
use Rattle.flow_graph.specs.Told.{Tells, told_at}
use Rattle.flow_graph.specs.Graphs.{Graph, IsFlowGraphFrom}
use Rattle.decoder.specs.declared.DecodeError.{DecodeError}
use Rattle.operand_info.specs.declared.columns.Flow.{Flow}
use Rattle.flow_graph.specs.declared.hook_sight.answers.Passage.{Passage}
use Rattle.flow_graph.specs.declared.hook_sight.answers.Sight.{Sight}
use Rattle.flow_graph.specs.declared.hook_sight.answers.Sight.TheVariants.{Whole, Ends}
use Rattle.flow_graph.specs.HookSight.Sight.{IsSeen, IsSight}
use Rattle.flow_graph.specs.HookSight.Entries.{TakenPart, Enters, IsFirstPassage}
use Rattle.flow_graph.specs.HookSight.Suspects.{IsSuspect, IsSuspected}

-- ---- for the same offsets by another name

-- the first of some passages is the first of the same passages
pub first_kept : (a b : ℕ → ℕ → Type 0) → ((p q : ℕ) → a p q → b p q) → ((p q : ℕ) → b p q → a p q) → (r : Option Passage) → IsFirstPassage a r → IsFirstPassage b r
first_kept a b there back (Some s) h = record {
  is = there s.from s.target h.is;
  first = λ p q g. h.first p q (back p q g);
  least = λ q g. h.least q (back s.from q g);
}
first_kept a b there back None h = λ p q g. h p q (back p q g)

module _ (code : CodeBytes) (part : TakenPart) (a b : ℕ → Type 0) (there : (p : ℕ) → a p → b p) (back : (p : ℕ) → b p → a p) where
  -- sight
  pub sight_kept : (s : Sight) → IsSight a code s → IsSight b code s
  sight_kept Whole h = λ p seen. h p (back p seen)
  sight_kept (Ends at why) h = record { reached = there at h.reached; ends = h.ends; before = λ p l seen. h.before p l (back p seen) }

  -- the first passage
  pub entered_kept : (r : Option Passage) → IsFirstPassage (Enters a code part) r → IsFirstPassage (Enters b code part) r
  entered_kept r h =
      first_kept (Enters a code part) (Enters b code part) (λ p q e. record { reached = there p e.reached; passes = e.passes })
      (λ p q e. record { reached = back p e.reached; passes = e.passes }) r h

  -- the first suspect
  pub suspect_kept : (s : Sight) (r : Option Passage) → IsSuspected a code part s r → IsSuspected b code part s r
  suspect_kept Whole r h = h
  suspect_kept (Ends at why) r h =
      first_kept (IsSuspect a code part) (IsSuspect b code part)
      (λ p q s. record { unseen = λ seen. s.unseen (back p seen); behind = s.behind; byte = s.byte; passes = s.passes })
      (λ p q s. record { unseen = λ seen. s.unseen (there p seen); behind = s.behind; byte = s.byte; passes = s.passes }) r h

-- ---- by the graph

-- what is reached stands in the code
pub reached_inside : (code : CodeBytes) (firsts : List ℕ) (p : ℕ) → ReachesFrom code firsts p → p < length code.bytes
reached_inside code firsts _ (start q has inside) = inside
reached_inside code firsts _ (step p q reached goes) = goes.inside

module _ (code : CodeBytes) (firsts : List ℕ) (graph : Graph) (is : IsFlowGraphFrom code firsts graph) (starts : List ℕ) (same : starts ≡ graph.starts) where
  -- its starts are what is reached
  pub starts_reached : (p : ℕ) → Contains starts p → ReachesFrom code firsts p
  starts_reached p has =
      All-contains (ReachesFrom code firsts) graph.starts p is.reached (subst (λ (xs : List ℕ). Contains xs p) same has)

  -- and all of that
  pub reached_starts : (p : ℕ) → ReachesFrom code firsts p → Contains starts p
  reached_starts p reached = subst (λ (xs : List ℕ). Contains xs p) (sym same) (is.complete p reached)

  -- they stand in the code
  pub starts_inside : All (λ p. p < length code.bytes) starts
  starts_inside =
      subst (All (λ p. p < length code.bytes)) (sym same)
      (All-from_get_or (λ p. p < length code.bytes) graph.starts 0
      (λ i l. reached_inside code firsts (get_or graph.starts i 0) (All-get_or (ReachesFrom code firsts) graph.starts i 0 l is.reached)))

  -- and ascend
  pub starts_ascend : IsStrictlyIncreasing starts
  starts_ascend = subst IsStrictlyIncreasing (sym same) is.ascending

  -- and of each is told what is read there
  pub starts_told : (flows : List (Result Flow DecodeError)) → flows ≡ graph.flows → (k : ℕ) → k < length starts → Tells code (get_or starts k 0) (told_at flows k)
  starts_told flows same_flows k l =
      subst (λ (xs : List ℕ). Tells code (get_or xs k 0) (told_at flows k)) (sym same)
      (subst (λ (fs : List (Result Flow DecodeError)). Tells code (get_or graph.starts k 0) (told_at fs k)) (sym same_flows)
      (is.told k (subst (λ (xs : List ℕ). k < length xs) same l)))

-- ---- without entries

abbrev first_alone : List ℕ
first_alone = 0 ∷ []

has_first : Contains first_alone 0
has_first = (0, omega arith, refl)

only_first : (q : ℕ) → Contains first_alone q → q ≡ 0
only_first q (zero, l, e) = sym e
only_first q (suc k, l, e) = absurd (omega arith)

seen_to : (code : CodeBytes) (p : ℕ) → IsSeen code [] p → Reaches code p
seen_to code _ (start q has inside) =
    let e = only_first q has in
    subst (Reaches code) (sym e) (start_one (subst (λ (x : ℕ). x < length code.bytes) e inside))
seen_to code _ (step p q seen goes) = step_one p q (seen_to code p seen) goes

to_seen : (code : CodeBytes) (p : ℕ) → Reaches code p → IsSeen code [] p
to_seen code _ (start_one inside) = start 0 has_first inside
to_seen code _ (step_one p q reached goes) = step p q (to_seen code p reached) goes

-- **without entries, what is seen is what control reaches from the first byte**
pub seen_alone : (code : CodeBytes) (p : ℕ) → IsSeen code [] p ↔ Reaches code p
seen_alone code p = (seen_to code p, to_seen code p)
