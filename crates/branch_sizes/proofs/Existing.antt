-- Each plan has a least closed layout, whatever a program does: grow open items until none is left.
use Rattle.std.proofs.Common.{◌≡◌, ℕ, zero, suc, ◌+◌, ◌^◌, ◌<◌, ◌≤◌, ◌⊎◌, inl, inr, List, length, get_or, set, Bool, true, false, arith, refl, subst}
use Rattle.std.proofs.lemmas.Bool.{cases_lt, cases_eq}
use Rattle.std.proofs.lemmas.List.{ext_get_or}
use Rattle.std.specs.Prelude.{MatchBool, ◌==◌}
use Rattle.branch_sizes.specs.declared.plan.Choice.{Choice}
use Rattle.branch_sizes.specs.declared.plan.Goal.{Goal}
use Rattle.branch_sizes.specs.declared.plan.Goal.TheVariants.{None as NoGoal, Inside, Outside}
use Rattle.branch_sizes.specs.declared.plan.Reach.{Reach}
use Rattle.branch_sizes.specs.declared.plan.Reach.TheVariants.{Always, Signed8, Signed32, Below, BridgeBelow}
use Rattle.branch_sizes.specs.Plan.{BlockPlan, item_at, choices_at, IsWellFormed}
use Rattle.branch_sizes.specs.Layout.{block_number, place, first_layout, item_choice, room, Reaches, ReachesFromBoth, ReachesGoal, IsItemClosed, IsLayout, IsClosed, IsLeast, AtMost}
use Rattle.branch_sizes.proofs.Rising.{first_at_most}
use Rattle.branch_sizes.proofs.Growing.{first_is_layout, one_less, one_grows}

-- a claim holds, or it does not
abbrev Decided : Type 0 → Type 0
Decided P = P ⊎ (P → ⊥)

lt_decided : (a b : ℕ) → Decided (a < b)
lt_decided a b = elim (cases_lt a b) [ inl h ↦ inl h | inr h ↦ inr (λ k. omega arith) ]

le_decided : (a b : ℕ) → Decided (a ≤ b)
le_decided a b = elim (cases_lt b a) [ inl h ↦ inr (λ k. omega arith) | inr h ↦ inl h ]

both_decided : {P Q : Type 0} → Decided P → Decided Q → Decided (P × Q)
both_decided (inl p) (inl q) = inl (p, q)
both_decided (inl p) (inr q) = inr (λ h. q h.1)
both_decided (inr p) q = inr (λ h. p h.0)

reach_decided : (r : Reach) (len p g : ℕ) → Decided (Reaches r len p g)
reach_decided Always len p g = inl tt
reach_decided Signed8 len p g = both_decided (le_decided (p + len) (g + 2 ^ 7)) (lt_decided g (p + len + 2 ^ 7))
reach_decided Signed32 len p g = both_decided (le_decided (p + len) (g + 2 ^ 31)) (lt_decided g (p + len + 2 ^ 31))
reach_decided (Below bits) len p g = lt_decided g (2 ^ bits)
reach_decided (BridgeBelow bits inner) len p g = both_decided (lt_decided g (2 ^ bits)) (lt_decided (p + inner) (2 ^ bits))

from_both_decided : (c : Choice) (p q g : ℕ) → Decided (ReachesFromBoth c p q g)
from_both_decided c p q g = both_decided (reach_decided c.reach c.len p g) (reach_decided c.reach c.len q g)

match_decided : (b : Bool) {P Q : Type 0} → Decided P → Decided Q → Decided (MatchBool b P Q)
match_decided true p q = p
match_decided false p q = q

goal_decided : (p : BlockPlan) (layout : List ℕ) (k : ℕ) (c : Choice) (g : Goal) → Decided (ReachesGoal p layout k c g)
goal_decided p layout k c NoGoal = inl tt
goal_decided p layout k c (Inside j) =
    match_decided (block_number p.spans j == block_number p.spans k)
    (reach_decided c.reach c.len (place p layout k) (place p layout j))
    (both_decided (from_both_decided c (place p layout k) (place p (first_layout p) k) (place p layout j))
    (from_both_decided c (place p layout k) (place p (first_layout p) k) (place p (first_layout p) j)))
goal_decided p layout k c (Outside t) = from_both_decided c (place p layout k) (place p (first_layout p) k) t

item_decided : (p : BlockPlan) (layout : List ℕ) (k : ℕ) → Decided (IsItemClosed p layout k)
item_decided p layout k =
    elim (cases_eq (get_or layout k 0 + 1) (length (choices_at p k))) [
      | inl last ↦ inl (inl last)
      | inr more ↦ elim (goal_decided p layout k (item_choice p layout k) (item_at p k).goal) [
        | inl reaches ↦ inl (inr reaches)
        | inr fails ↦ inr (λ h. elim h [ inl last ↦ more last | inr reaches ↦ fails reaches ])
      ]
    ]

-- all items below n are closed, or one is not
first_open : (p : BlockPlan) (layout : List ℕ) (n : ℕ)
    → ((k : ℕ) → k < n → IsItemClosed p layout k) ⊎ ((k : ℕ) × (k < n) × (IsItemClosed p layout k → ⊥))
first_open p layout zero = inl (λ k lt. absurd (omega arith))
first_open p layout (suc n) =
    elim (first_open p layout n) [
      | inl all ↦ elim (item_decided p layout n) [
        | inl closed ↦ inl (λ k lt. elim (cases_lt k n) [
          | inl below ↦ all k below
          | inr ge ↦ let e : n ≡ k = omega arith in subst (λ x. IsItemClosed p layout x) e closed
        ])
        | inr open_here ↦ inr (n, omega arith, open_here)
      ]
      | inr some ↦ inr (some.0, omega (arith, some.1), some.2)
    ]

-- from a layout below all closed ones, with at most so much room
least_from : (p : BlockPlan) → IsWellFormed p → (fuel : ℕ) (layout : List ℕ) → IsLayout p layout → room p layout < fuel
    → ((other : List ℕ) → IsClosed p other → AtMost layout other) → (least : List ℕ) × IsLeast p least
least_from p w zero layout lo small below = absurd (omega arith)
least_from p w (suc fuel) layout lo small below =
    elim (first_open p layout (length p.items)) [
      | inl all ↦ (layout, record { closed = record { is_layout = lo; items = all }; least = below })
      | inr some ↦
          let next : List ℕ = set layout some.0 (get_or layout some.0 0 + 1) in
          let grows = one_grows p w layout lo some.0 some.1 some.2 (get_or layout some.0 0 + 1) refl in
          let less = one_less p w layout lo some.0 some.1 some.2 (get_or layout some.0 0 + 1) refl in
          least_from p w fuel next grows.layout (omega (arith, less, small)) (λ other cl. grows.below other cl (below other cl))
    ]

-- every well-formed plan has a least closed layout
pub least_exists : (p : BlockPlan) → IsWellFormed p → (least : List ℕ) × IsLeast p least
least_exists p w =
    least_from p w (suc (room p (first_layout p))) (first_layout p) (first_is_layout p w) (omega arith)
    (λ other cl. first_at_most p other)

-- there is no other
pub least_unique : (p : BlockPlan) (a b : List ℕ) → IsLeast p a → IsLeast p b → a ≡ b
least_unique p a b la lb =
    ext_get_or 0 a b (omega (arith, la.closed.is_layout.len, lb.closed.is_layout.len))
    (λ k lt. omega (arith, (la.least b lb.closed).each k, (lb.least a la.closed).each k))
