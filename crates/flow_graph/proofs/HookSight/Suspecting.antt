-- What was not reached, offset by offset.
use Rattle.std.proofs.Common.{◌≡◌, ℕ, ◌+◌, ◌<◌, ◌≤◌, inl, inr, List, length, Option, Some, None, arith, subst}
use Rattle.std.specs.List.{Contains}
use Rattle.std.proofs.lemmas.Bool.{cases_lt}
use Rattle.flow_graph.specs.Control.{CodeBytes}
use Rattle.flow_graph.specs.HookSight.Entries.{TakenPart, IsPassage, IsLeast, IsFirst}
use Rattle.flow_graph.specs.HookSight.Suspects.{IsSuspect, IsAt}
use Rattle.flow_graph.proofs.HookSight.Places.{at_place}

module _ (code : CodeBytes) (part : TakenPart) (starts : List ℕ) where
  -- the suspects from p on
  abbrev pub SuspectFrom : ℕ → ℕ → Type 0
  SuspectFrom p q = IsSuspect (Contains starts) code part p q

  -- no suspect from an offset that stands in what is overwritten
  pub none_within : (p : ℕ) → p < part.taken → (q : ℕ) → SuspectFrom p q → ⊥
  none_within p l q s = let behind = s.behind in omega (arith, l, behind)

  -- none from an offset of the list
  pub none_at : (p k : ℕ) → IsAt starts k p → (q : ℕ) → SuspectFrom p q → ⊥
  none_at p k at q s = s.unseen (at_place starts k p at.0 at.1)

  -- from another one the least passage is the least suspect
  pub least_suspect : (p : ℕ) → p < length code.bytes → part.taken ≤ p → (Contains starts p → ⊥) → (r : Option ℕ) → IsLeast (IsPassage code part p) r →
      IsLeast (SuspectFrom p) r
  least_suspect p byte behind unseen (Some q) h =
      (record { unseen = unseen; behind = behind; byte = byte; passes = h.0 }, λ m s. h.1 m s.passes)
  least_suspect p byte behind unseen None h = λ q s. h q s.passes

  -- no suspect from an offset below p
  abbrev pub NoneBelow : ℕ → Type 0
  NoneBelow p = (r : ℕ) → r < p → (s : ℕ) → SuspectFrom r s → ⊥

  -- one offset more
  pub none_more : (p : ℕ) → NoneBelow p → ((s : ℕ) → SuspectFrom p s → ⊥) → NoneBelow (p + 1)
  none_more p none here r below s sus =
      elim (cases_lt r p) [
        | inl less ↦ none r less s sus
        | inr not_less ↦
            let e : r ≡ p = omega (arith, below, not_less) in
            here s (subst (λ (n : ℕ). SuspectFrom n s) e sus)
      ]

  -- the first of all
  pub first_is : (p q : ℕ) → NoneBelow p → IsLeast (SuspectFrom p) (Some q) → IsFirst SuspectFrom p q
  first_is p q none here = record {
    is = here.0;
    first = λ r s sus. elim (cases_lt r p) [ inr g ↦ g | inl l ↦ absurd (none r l s sus) ];
    least = here.1;
  }

  -- below the last offset are all
  pub none_at_all : (n : ℕ) → length code.bytes ≤ n → NoneBelow n → (p q : ℕ) → SuspectFrom p q → ⊥
  none_at_all n all none p q s = let byte = s.byte in none p (omega (arith, all, byte)) q s
