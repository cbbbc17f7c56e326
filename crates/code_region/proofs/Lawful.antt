-- The laws over whole runs, from soundness.
use Rattle.std.proofs.Common.{◌≡◌, ℕ, zero, suc, ◌+◌, ◌≤◌, ◌<◌, List, [], ◌∷◌, length, get_or, filter, find, not, arith, ◌∙◌, ap, subst, refl, Some, Ok, nat_eq, nat_lt, inl, inr}
use Rattle.std.proofs.lemmas.Bool.{cases_Bool, eq-eqb}
use Rattle.code_region.specs.State.{LiveBlock, RegionState, len_in_units, live_block, region_image}
use Rattle.code_region.specs.Placing.{place_answer, with_block, unfilled_block, placed_as, after_place}
use Rattle.code_region.specs.Releasing.{release_of, release_answer, after_release}
use Rattle.code_region.specs.Keeping.{AreLaid, IsSound}
use Rattle.code_region.specs.Laws.{AreInside, AreDisjoint, Restores}
use Rattle.code_region.proofs.Sound.{AreLaid-le, answer-fits}

-- each block is inside
pub laid-inside : (from limit : ℕ) (live : List LiveBlock) (k : ℕ) (d : LiveBlock) → AreLaid from limit live → k < length live →
    (from ≤ (get_or live k d).place) × ((get_or live k d).place + (get_or live k d).len ≤ limit)
laid-inside from limit [] k d laid h = absurd (omega arith)
laid-inside from limit (block ∷ live) zero d laid h =
    (laid.0, AreLaid-le (block.place + block.len) limit live laid.3)
laid-inside from limit (block ∷ live) (suc k) d laid h =
    let rest = laid-inside (block.place + block.len) limit live k d laid.3 (omega arith) in
    let p = laid.0 in
    (omega arith, rest.1)

-- the blocks of a sound region lie inside its range
pub sound-inside : (state : RegionState) → IsSound state → AreInside state
sound-inside state sound = λ k d h. laid-inside state.base (state.base + state.size) state.live k d sound h

-- none stands over a later one
laid-pairs : (from limit : ℕ) (live : List LiveBlock) (i j : ℕ) (d : LiveBlock) → AreLaid from limit live → i < j → j < length live →
    (get_or live i d).place + (get_or live i d).len ≤ (get_or live j d).place
laid-pairs from limit [] i j d laid h l = absurd (omega arith)
laid-pairs from limit (block ∷ live) zero (suc j) d laid h l = (laid-inside (block.place + block.len) limit live j d laid.3 (omega arith)).0
laid-pairs from limit (block ∷ live) (suc i) (suc j) d laid h l = laid-pairs (block.place + block.len) limit live i j d laid.3 (omega arith) (omega arith)
laid-pairs from limit (block ∷ live) i zero d laid h l = absurd (omega arith)

-- no two of them overlap
pub sound-disjoint : (state : RegionState) → IsSound state → AreDisjoint state
sound-disjoint state sound = λ i j d h l. laid-pairs state.base (state.base + state.size) state.live i j d sound h l

-- the block that was put in is found, and goes when it is taken out
find-with_block : (block : LiveBlock) (place : ℕ) (live : List LiveBlock) → block.place ≡ place →
    (found : LiveBlock) × (find (λ b. nat_eq b.place place) (with_block block live) ≡ Some found)
find-with_block block place [] e = (block, rw (eq-eqb block.place place e) refl)
find-with_block block place (other ∷ live) e =
    elim (cases_Bool (nat_lt block.place other.place)) [
      | inl before ↦ (block, rw (before, eq-eqb block.place place e) refl)
      | inr behind ↦ elim (cases_Bool (nat_eq other.place place)) [
        | inl same ↦ (other, rw (behind, same) refl)
        | inr differs ↦ (let rest = find-with_block block place live e in (rest.0, rw (behind, differs) rest.1))
      ]
    ]

filter-with_block : (block : LiveBlock) (place : ℕ) (live : List LiveBlock) → block.place ≡ place →
    filter (λ b. not (nat_eq b.place place)) (with_block block live) ≡ filter (λ b. not (nat_eq b.place place)) live
filter-with_block block place [] e = rw (eq-eqb block.place place e) refl
filter-with_block block place (other ∷ live) e =
    elim (cases_Bool (nat_lt block.place other.place)) [
      | inl before ↦ rw (before, eq-eqb block.place place e) refl
      | inr behind ↦ elim (cases_Bool (nat_eq other.place place)) [
        | inl same ↦ rw (behind, same) (filter-with_block block place live e)
        | inr differs ↦ rw (behind, differs) (ap (λ bs. other ∷ bs) (filter-with_block block place live e))
      ]
    ]

-- placing a block and releasing it restores the region
pub sound-restores : (state : RegionState) (len place : ℕ) → IsSound state → place_answer state len ≡ Ok place → Restores state len place
unfolding after_place after_release release_answer live_block
sound-restores state len place sound e =
    let fits = answer-fits state len place sound e in
    let block = unfilled_block place (len_in_units len) in
    let found = find-with_block block place state.live refl in
    let with_live : List LiveBlock → RegionState = λ live. record state { live = live } in
    let P : ℕ → Type 0 = λ p. filter (λ b. not (nat_eq b.place p)) state.live ≡ state.live in
    let fresh = subst P fits.2 fits.1.fresh in
    let back : after_release (after_place state len) place ≡ state =
    ap (λ a. after_release (placed_as a state len) place) e ∙ ap with_live (filter-with_block block place state.live refl ∙ fresh) in
    record {
      succeeds = ap (λ a. release_answer (placed_as a state len) place) e ∙ ap (λ f. release_of f place) found.1;
      blocks = back;
      bytes = ap region_image back;
      again = ap (λ s. place_answer s len) back ∙ e;
    }
