-- What is known of the block of a step once there is a place for it.
use Rattle.std.proofs.Common.{◌≡◌, ℕ, zero, suc, ◌+◌, ◌-◌, ◌^◌, ◌≤◌, ◌<◌, List, length, arith, ap, refl, subst, Option, Some, None, Ok, Bool}
use Rattle.std.specs.Prelude.{if◌then◌else◌}
use Rattle.std.proofs.lemmas.Bool.{le-leb, le-ltb}
use Rattle.x86_values.specs.declared.Bits.{Bits}
use Rattle.x86_values.specs.declared.Bits.TheVariants.{B16, B32, B64}
use Rattle.x86_values.specs.Wrapping.{width}
use Rattle.move_goals.specs.declared.items.Placed.{Placed}
use Rattle.move_goals.specs.Items.{IsPlaced, ArePlaced, one_span, first_passing}
use Rattle.move_goals.specs.Plan.{plan_with, plan_outside}
use Rattle.branch_sizes.specs.MoveLayout.Laid.{new_end}
use Rattle.block_encoder.specs.Moved.{MovedLists}
use Rattle.block_encoder.specs.ByPlan.{IsMovedBy, IsPassBy, IsTooFarBy}
use Rattle.block_encoder.specs.Last.{last_layout, last_len}
use Rattle.code_region.specs.State.{RegionState, len_in_units}
use Rattle.code_region.specs.Placing.{place_answer}
use Rattle.code_region.specs.Keeping.{IsSound}
use Rattle.code_region.specs.Laws.{AreInUnits}
use Rattle.step_slots.specs.Block.{back_address, step_items, step_plan, IsStepOutOfReach, reserved_room}
use Rattle.step_slots.specs.LawsBelow.{StepLawsBelow}
use Rattle.step_slots.proofs.JumpBack.{jump-placed, jump-reached}

-- the address behind an instruction is one of the mode
pub back-below : (bits : Bits) (item : Placed) → back_address bits item < 2 ^ width bits
back-below B16 item = omega arith
back-below B32 item = omega arith
back-below B64 item = omega arith

-- ---- lengths

-- a length in units is at least the length
pub rounded-above : (n : ℕ) → n ≤ 53 → n ≤ len_in_units n
unfolding len_in_units
rounded-above n le = rw (le-leb n (2 ^ 64 - 16) (omega (arith, le))) (omega arith)

-- ---- at a place

end-is : (bits : Bits) (items : List Placed) (place : ℕ)
    → new_end (plan_outside bits items place) (last_layout (plan_outside bits items place)) 0 ≤ place + last_len bits items place
unfolding last_len
end-is bits items place = omega arith

one_block : (bits : Bits) (items : List Placed) (place : ℕ) → (plan_outside bits items place).spans ≡ one_span items place
unfolding plan_with
one_block bits items place = refl

module _ (laws : StepLawsBelow) where
  -- ---- the items

  -- an instruction and its jump back are placed
  pub step-placed : (bits : Bits) (item : Placed) → IsPlaced bits item → ArePlaced bits (step_items bits item)
  step-placed bits item placed zero lt = placed
  step-placed bits item placed (suc zero) lt =
      jump-placed laws bits (back_address bits item) _ (back-below bits item) refl
  step-placed bits item placed (suc (suc k)) lt = absurd (omega arith)

  module _ (bits : Bits) (item : Placed) (placed : IsPlaced bits item) where
    -- some bytes are reserved
    pub reserved-some : (base : ℕ) → 0 < reserved_room bits base item
    reserved-some base = laws.last.last-some bits (step_items bits item) base (step-placed bits item placed) (omega arith) (omega arith)

    -- at most 53 bytes are reserved
    pub reserved-short : (base : ℕ) → reserved_room bits base item ≤ 53
    reserved-short base = laws.last.last-bound bits (step_items bits item) base (step-placed bits item placed) (omega arith)

  module _ (bits : Bits) (item : Placed) (placed : IsPlaced bits item) (region : RegionState) (inside : region.base + region.size ≤ 2 ^ width bits)
      (sound : IsSound region) (units : AreInUnits region) (place : ℕ) (e : place_answer region (reserved_room bits region.base item) ≡ Ok place) where
    same-len : last_len bits (step_items bits item) place ≡ reserved_room bits region.base item
    same-len =
        let u = laws.places.place-units region (reserved_room bits region.base item) place sound units e in
        laws.last.last-moves bits (step_items bits item) region.base place u.0 u.1

    -- **the block fits the place**
    pub block-fits : (m : MovedLists) → IsMovedBy bits (step_items bits item) (step_plan bits item place) m → length m.bytes ≤ len_in_units (reserved_room bits region.base item)
    block-fits m moved =
        omega (
          arith,
          laws.last.moved-within bits (step_items bits item) place (step-placed bits item placed) (omega arith) m moved,
          same-len,
          rounded-above (reserved_room bits region.base item) (reserved-short bits item placed region.base),
        )

    -- **it ends inside the address space**
    pub never-passes : (end : ℕ) → IsPassBy bits (step_plan bits item place) end → ⊥
    never-passes end pass =
        let p = step_plan bits item place in
        let low = laws.last.end-below bits (step_items bits item) place (step-placed bits item placed) (omega arith) pass.layout pass.least in
        let at = end-is bits (step_items bits item) place in
        let room = laws.places.place-inside region (reserved_room bits region.base item) place sound e in
        let above = rounded-above (reserved_room bits region.base item) (reserved-short bits item placed region.base) in
        let ends : new_end p pass.layout 0 ≤ 2 ^ width bits = omega (arith, low, at, same-len, room, above, inside) in
        let count : length p.spans ≡ 1 = ap length (one_block bits (step_items bits item) place) in
        let passes : first_passing bits (new_end p pass.layout) 1 ≡ Some end =
        subst (λ (n : ℕ). first_passing bits (new_end p pass.layout) n ≡ Some end) count pass.passes in
        none_some (new_end p pass.layout) ends end passes
      where
        none_some : (ends : ℕ → ℕ) → ends 0 ≤ 2 ^ width bits → (x : ℕ) → first_passing bits ends 1 ≡ Some x → ⊥
        none_some ends le x h =
            let first : Option ℕ = Some 0 in
            let absent : Option ℕ = None in
            let found : Bool → Option ℕ =
            λ (t : Bool). elim (if t then first else absent) as (λ (o : Option ℕ). Option ℕ) [ Some b ↦ Some (ends b) | None ↦ None ] in
            let none : first_passing bits ends 1 ≡ None = ap found (le-ltb (2 ^ width bits) (ends 0) le) in
            cc

    -- **only the instruction may be out of reach**
    pub only-first : (at target : ℕ) → IsTooFarBy bits (step_items bits item) (step_plan bits item place) at target → IsStepOutOfReach bits item place target
    only-first zero target far = far
    only-first (suc zero) target far =
        absurd (far.first.unreached
        (jump-reached laws bits (step_items bits item) place (step-placed bits item placed) (omega arith) far.layout far.least far.ends 1 (omega arith)
        (back_address bits item) refl (back-below bits item)))
    only-first (suc (suc n)) target far = let w = far.first.within in absurd (omega (arith, w))
