-- What a step leaves.
use Rattle.std.proofs.Common.{◌≡◌, ℕ, ◌≤◌, ◌<◌, List, length, Ok, arith, ap, sym, subst, ◌∙◌}
use Rattle.x86_values.specs.declared.Bits.{Bits}
use Rattle.move_goals.specs.declared.items.Placed.{Placed}
use Rattle.move_goals.specs.Items.{IsPlaced}
use Rattle.code_region.specs.State.{RegionState, len_in_units}
use Rattle.code_region.specs.Placing.{after_place}
use Rattle.code_region.specs.Filling.{after_fill}
use Rattle.step_slots.specs.declared.slots.StepSlot.{StepSlot}
use Rattle.step_slots.specs.Block.{reserved_room}
use Rattle.step_slots.specs.State.{with_slot}
use Rattle.step_slots.specs.Stepping.{IsBlockStepped}
use Rattle.step_slots.specs.Keeping.{AreSlotsKept}
use Rattle.step_slots.specs.LawsBelow.{StepLawsBelow}
use Rattle.step_slots.proofs.Stepped.{block-fits}
use Rattle.step_slots.proofs.Kept.{kept-units, step-room, step-kept}

module _ (laws : StepLawsBelow) where
  module _ (bits : Bits) (region : RegionState) (slots : List StepSlot) (room : ℕ) (kept : AreSlotsKept bits region slots room) (item : Placed)
      (spelled : IsPlaced bits item) (place : ℕ) (new : RegionState) (stepped : IsBlockStepped bits region item (Ok place) new) where
    stepped-fits : length stepped.1.0 ≤ len_in_units (reserved_room bits region.base item)
    stepped-fits =
        let block = stepped.1.1.0 in
        let le = block-fits laws bits item spelled region kept.inside kept.live.sound (kept-units laws bits region slots room kept) place stepped.0 block.0 block.1.0 in
        let same = ap length block.1.1 in
        omega (arith, le, same)

    -- there is room for the slot
    pub stepped-room : length slots < room
    stepped-room = step-room laws bits region slots room kept item place stepped.0

    -- **a slot more is kept**
    pub stepped-made : (more : ℕ) → room ≤ more → (made : List StepSlot) → made ≡ with_slot (record { place = place; item = item }) slots
        → (base : ℕ) → base ≡ region.base → (base ≡ new.base) × AreSlotsKept bits new made more
    stepped-made more roomy made same base at =
        let len = reserved_room bits region.base item in
        let is : new ≡ after_fill (after_place region len) place stepped.1.0 = stepped.1.1.1 in
        let now = laws.fills.filled-is region len place kept.live.sound stepped.0 stepped.1.0 in (
          at ∙ sym (ap (λ (r : RegionState). r.base) (is ∙ now)),
          subst (λ (r : RegionState). AreSlotsKept bits r made more) (sym is)
              (subst (λ (xs : List StepSlot). AreSlotsKept bits (after_fill (after_place region len) place stepped.1.0) xs more) (sym same)
              (step-kept laws bits region slots room kept item place stepped.0 stepped.1.0 stepped-fits stepped.1.1.0 more roomy)),
        )
