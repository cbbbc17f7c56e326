-- What a step answers, by what the region and the moving answer.
use Rattle.std.proofs.Common.{◌≡◌, ℕ, ◌+◌, ◌^◌, ◌≤◌, ◌<◌, inl, inr, List, length, refl, sym, subst, ap, ◌∙◌, nat_eq, Option, Some, None, Result, Ok, Err, arith}
use Rattle.std.specs.Prelude.{IsTrue}
use Rattle.std.proofs.lemmas.Bool.{cases_Bool, eqb-true}
use Rattle.x86_values.specs.declared.Bits.{Bits}
use Rattle.x86_values.specs.Wrapping.{width}
use Rattle.move_goals.specs.declared.items.Placed.{Placed}
use Rattle.move_goals.specs.Items.{IsPlaced, ArePlaced}
use Rattle.block_encoder.specs.declared.error.PlanError.{PlanError}
use Rattle.block_encoder.specs.declared.error.PlanError.TheVariants.{Memory, Wraps, TooFar}
use Rattle.block_encoder.specs.Moved.{MovedLists}
use Rattle.block_encoder.specs.ByPlan.{IsOutsideAnswer}
use Rattle.block_encoder.specs.Planned.{as_moving}
use Rattle.block_encoder.specs.Last.{last_len}
use Rattle.code_region.specs.declared.gaps.Span.{Span}
use Rattle.code_region.specs.declared.refusals.PlaceError.{PlaceError}
use Rattle.code_region.specs.declared.refusals.PlaceError.TheVariants as place_error
use Rattle.code_region.specs.State.{RegionState, len_in_units, gaps_of}
use Rattle.code_region.specs.Gaps.{first_gap, longest}
use Rattle.code_region.specs.Placing.{place_in_gap, place_answer, after_place}
use Rattle.code_region.specs.Releasing.{after_release}
use Rattle.code_region.specs.Filling.{after_fill, can_fill}
use Rattle.code_region.specs.Keeping.{IsSound}
use Rattle.code_region.specs.Laws.{AreInUnits}
use Rattle.step_slots.specs.Block.{step_items, reserved_room}
use Rattle.step_slots.specs.Stepping.{IsBlockStepped, IsOfLength, IsOfReach, place_refusal_of, move_refusal_of}
use Rattle.step_slots.specs.LawsBelow.{StepLawsBelow}
use Rattle.step_slots.proofs.Stepped.{step-placed, reserved-some, block-fits, never-passes, only-first}

front-not_empty : (o : Option Span) (n m : ℕ) → place_in_gap o n m ≡ Err place_error.Empty → ⊥
front-not_empty None n m e = cc
front-not_empty (Some gap) n m e = cc

-- a length that is not 0 is not refused as one
answer-not_empty : (state : RegionState) (len : ℕ) → 0 < len → place_answer state len ≡ Err place_error.Empty → ⊥
unfolding place_answer
answer-not_empty state len some e =
    elim (cases_Bool (nat_eq len 0)) [
      | inl zero_len ↦ (let z = eqb-true len 0 zero_len in absurd (omega (arith, z, some)))
      | inr some_len ↦ elim (cases_Bool (nat_eq (length state.live) state.max_blocks)) [
        | inl all_live ↦ (let f = rw (some_len, all_live) at e in absurd cc)
        | inr room ↦ (
            let f = rw (some_len, room) at e in
            front-not_empty (first_gap (len_in_units len) (gaps_of state)) (len_in_units len) (longest (gaps_of state)) f)
      ]
    ]

-- the reserved length is that of the last forms
pub reserved-is : (bits : Bits) (item : Placed) (region : RegionState) (base : ℕ) → base ≡ region.base → (items : List Placed) → items ≡ step_items bits item
    → (len : ℕ) → len ≡ last_len bits items base → len ≡ reserved_room bits region.base item
reserved-is bits item region base at items are len is =
    is ∙ (ap (λ (xs : List Placed). last_len bits xs base) are ∙ ap (λ (b : ℕ). last_len bits (step_items bits item) b) at)

-- the answer for the reserved length is the one that was given
pub answer-is : (region : RegionState) (len reserved_len : ℕ) → len ≡ reserved_len → (answer told : Result ℕ PlaceError) → answer ≡ place_answer region len
    → answer ≡ told → place_answer region reserved_len ≡ told
answer-is region len reserved_len same answer told is e = sym (ap (place_answer region) same) ∙ (sym is ∙ e)

-- the answer of the mover is one for the items of the step
pub outside-is : (bits : Bits) (given items : List Placed) → given ≡ items → (place : ℕ) (answer told : Result MovedLists PlanError) → answer ≡ told
    → IsOutsideAnswer bits given place (as_moving answer) → IsOutsideAnswer bits items place (as_moving told)
outside-is bits given items same place answer told is h =
    subst (λ (xs : List Placed). IsOutsideAnswer bits xs place (as_moving told)) same
    (subst (λ (r : Result MovedLists PlanError). IsOutsideAnswer bits given place (as_moving r)) is h)

module _ (laws : StepLawsBelow) where
  -- the items of a step are placed
  pub items-placed : (bits : Bits) (item : Placed) → IsPlaced bits item → (items : List Placed) → items ≡ step_items bits item → ArePlaced bits items
  items-placed bits item spelled items are = subst (ArePlaced bits) (sym are) (step-placed laws bits item spelled)

  module _ (bits : Bits) (item : Placed) (spelled : IsPlaced bits item) (region : RegionState) where
    -- a refusal for want of length is one of a place
    pub length-refusal : (why : PlaceError) → place_answer region (reserved_room bits region.base item) ≡ Err why → IsOfLength why
    length-refusal place_error.Empty e = answer-not_empty region (reserved_room bits region.base item) (reserved-some laws bits item spelled region.base) e
    length-refusal (place_error.TooManyBlocks max) e = tt
    length-refusal (place_error.Full len largest) e = tt

    -- without a place nothing is stepped
    pub no-place : (why : PlaceError) (len : ℕ) → len ≡ len_in_units (reserved_room bits region.base item) → place_answer region (reserved_room bits region.base item) ≡ Err why
        → (new : RegionState) → new ≡ region → IsBlockStepped bits region item (Err (place_refusal_of why len)) new
    no-place place_error.Empty len l e new same = same
    no-place (place_error.TooManyBlocks max) len l e new same = ((e, l), same)
    no-place (place_error.Full n largest) len l e new same = (e, same)

    module _ (inside : region.base + region.size ≤ 2 ^ width bits) (sound : IsSound region) (units : AreInUnits region) (place : ℕ)
        (e : place_answer region (reserved_room bits region.base item) ≡ Ok place) where
      -- the only refusals of the mover are memory and reach
      pub reach-refusal : (why : PlanError) → IsOutsideAnswer bits (step_items bits item) place (as_moving (Err why)) → IsOfReach why
      reach-refusal Memory h = tt
      reach-refusal (Wraps end) h = never-passes laws bits item spelled region inside sound units place e end h.1
      reach-refusal (TooFar at target) h = tt

      -- an instruction that is not moved is not stepped
      pub not-moved : (why : PlanError) → IsOutsideAnswer bits (step_items bits item) place (as_moving (Err why)) → (new : RegionState) → new ≡ region
          → IsBlockStepped bits region item (Err (move_refusal_of why)) new
      not-moved Memory h new same = same
      not-moved (Wraps end) h new same = same
      not-moved (TooFar at target) h new same =
          ((place, (e, only-first laws bits item spelled region inside sound units place e at target h.1)), same)

      -- a moved block fits its reserved length
      pub moved-fits : (m : MovedLists) → IsOutsideAnswer bits (step_items bits item) place (Ok m) → length m.bytes ≤ len_in_units (reserved_room bits region.base item)
      moved-fits m h = block-fits laws bits item spelled region inside sound units place e m h.1

      -- so they can be filled in
      pub moved-can_fill : (m : MovedLists) → IsOutsideAnswer bits (step_items bits item) place (Ok m) → (now : RegionState)
          → now ≡ after_place region (reserved_room bits region.base item) → (bytes : List ℕ) → bytes ≡ m.bytes → IsTrue (can_fill now place (length bytes))
      moved-can_fill m h now is bytes same =
          let fits = moved-fits m h in
          let long = ap length same in
          subst (λ (r : RegionState). IsTrue (can_fill r place (length bytes))) (sym is)
          (laws.fills.placed-can_fill region (reserved_room bits region.base item) place sound e (length bytes) (omega (arith, fits, long)))

      -- a place that is given back leaves the region as it was
      pub given-back : (now : RegionState) → now ≡ after_place region (reserved_room bits region.base item) → (new : RegionState) → new ≡ after_release now place → new ≡ region
      given-back now is new same =
          same ∙ (ap (λ (r : RegionState). after_release r place) is ∙ (laws.regions.restores region (reserved_room bits region.base item) place sound e).blocks)

      -- a moved block in its place is the step
      pub moved-steps : (m : MovedLists) → IsOutsideAnswer bits (step_items bits item) place (Ok m) → (new : RegionState)
          → new ≡ after_fill (after_place region (reserved_room bits region.base item)) place m.bytes → IsBlockStepped bits region item (Ok place) new
      moved-steps m h new is = (e, (m.bytes, ((m, (h.1, refl)), is)))
