-- Which offset is the first from which control enters what is taken.
use Rattle.std.proofs.Common.{◌≡◌, ℕ, ◌+◌, ◌<◌, ◌≤◌, inl, inr, List, length, get_or, Option, Some, None, arith, sym, subst, ◌∙◌}
use Rattle.std.specs.List.Sorted.{IsStrictlyIncreasing}
use Rattle.std.proofs.lemmas.Bool.{cases_lt}
use Rattle.std.proofs.lemmas.List.{get_or_default}
use Rattle.std.proofs.lemmas.List.Elements.{All-get_or}
use Rattle.std.proofs.lemmas.List.Kept.{AllPairs-from_increasing}
use Rattle.flow_graph.specs.declared.exits.Exits.{Exits}
use Rattle.flow_graph.specs.Control.{CodeBytes, IsSuccessor}
use Rattle.flow_graph.specs.Exits.{AreExits}
use Rattle.flow_graph.specs.Reached.{Reaches}
use Rattle.flow_graph.specs.Graphs.{Graph, IsFlowGraph}
use Rattle.move_goals.specs.declared.items.Placed.{Placed}
use Rattle.detour.specs.Entries.{IsEntry, IsFirstEntry, IsNotEntered, IsNextEntry, IsTargetEntry, IsEntryFrom}

-- ---- from one offset

-- the end of the instruction is where control goes
pub next_entry_goes : (code : CodeBytes) (items : List Placed) (p : ℕ) (exits : Exits) → AreExits code p exits → (q : ℕ)
    → ((0 < exits.next) × (q ≡ p + exits.next)) × IsEntry items p q → IsSuccessor code p q × IsEntry items p q
next_entry_goes code items p exits are q h =
    (subst (λ (x : ℕ). IsSuccessor code p x) (sym h.0.1) (are.next h.0.0).0, h.1)

-- else its target is, if one of the two enters
pub target_entry_goes : (code : CodeBytes) (items : List Placed) (p : ℕ) (exits : Exits) → AreExits code p exits → IsNextEntry items p exits.next None
    → (r : Option ℕ) → IsTargetEntry items p exits.target r → IsEntryFrom code items p r
target_entry_goes code items p exits are next (Some q) h = ((are.target q h.0).0, h.1)
target_entry_goes code items p exits are next None h =
    λ q goes entry. elim (are.all q goes) [
      | inl n ↦ next n.0 (subst (λ (x : ℕ). IsEntry items p x) n.1 entry)
      | inr t ↦ h q t entry
    ]

-- ---- from the reached ones

-- no start before one of them enters
abbrev pub NoneBefore : CodeBytes → List Placed → List ℕ → ℕ → Type 0
NoneBefore code items starts k = (j : ℕ) → j < k → (q : ℕ) → IsSuccessor code (get_or starts j 0) q → IsEntry items (get_or starts j 0) q → ⊥

-- one more of them
pub none_more : (code : CodeBytes) (items : List Placed) (starts : List ℕ) (k : ℕ) → NoneBefore code items starts k
    → ((q : ℕ) → IsSuccessor code (get_or starts k 0) q → IsEntry items (get_or starts k 0) q → ⊥) → NoneBefore code items starts (k + 1)
none_more code items starts k none last j below q goes entry =
    elim (cases_lt j k) [
      | inl less ↦ none j less q goes entry
      | inr not_less ↦
          let e : j ≡ k = omega (arith, below, not_less) in
          last q (subst (λ (n : ℕ). IsSuccessor code (get_or starts n 0) q) e goes) (subst (λ (n : ℕ). IsEntry items (get_or starts n 0) q) e entry)
    ]

ascends : (xs : List ℕ) → IsStrictlyIncreasing xs → (i j : ℕ) → i ≤ j → j < length xs → get_or xs i 0 ≤ get_or xs j 0
ascends xs up i j le lt =
    elim (cases_lt i j) [
      | inl l ↦ omega (arith, AllPairs-from_increasing xs up i j 0 l lt)
      | inr g ↦ let e : i ≡ j = omega (arith, le, g) in subst (λ (n : ℕ). get_or xs i 0 ≤ get_or xs n 0) e (omega arith)
    ]

module _ (code : CodeBytes) (items : List Placed) (graph : Graph) (is : IsFlowGraph code graph) where
  -- from none of them: from no offset at all
  pub none_entered : NoneBefore code items graph.starts (length graph.starts) → IsNotEntered code items
  none_entered none p q e =
      let at = is.complete p e.reached in
      let same : get_or graph.starts at.0 0 ≡ p = get_or_default graph.starts at.0 0 p at.1 ∙ at.2 in
      none at.0 at.1 q (subst (λ (x : ℕ). IsSuccessor code x q) (sym same) e.goes) (subst (λ (x : ℕ). IsEntry items x q) (sym same) e.entry)

  -- **the first of them is the first offset of all**
  pub first_entered : (k q : ℕ) → k < length graph.starts → NoneBefore code items graph.starts k → IsSuccessor code (get_or graph.starts k 0) q
      → IsEntry items (get_or graph.starts k 0) q → IsFirstEntry code items (get_or graph.starts k 0) q
  first_entered k q lt none goes entry = record {
    enters = record { reached = All-get_or (Reaches code) graph.starts k 0 lt is.reached; goes = goes; entry = entry };
    first = λ p other less e.
        let at = is.complete p e.reached in
        let same : get_or graph.starts at.0 0 ≡ p = get_or_default graph.starts at.0 0 p at.1 ∙ at.2 in
        elim (cases_lt at.0 k) [
          | inl before ↦ none at.0 before other (subst (λ (x : ℕ). IsSuccessor code x other) (sym same) e.goes) (subst (λ (x : ℕ). IsEntry items x other) (sym same) e.entry)
          | inr behind ↦ absurd (omega (arith, less, same, ascends graph.starts is.ascending k at.0 behind at.1))
        ];
  }
