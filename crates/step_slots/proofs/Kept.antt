-- Step slots as they are made and finished, and what holds of them then.
use Rattle.std.proofs.Common.{◌≡◌, ℕ, ◌+◌, ◌-◌, ◌%◌, ◌^◌, ◌≤◌, ◌<◌, inl, inr, List, [], ◌++◌, length, replicate, ap, refl, subst, sym, ◌∙◌, nat_lt, None, Ok, Err}
use Rattle.std.proofs.lemmas.Bool.{cases_Bool, ltb-false}
use Rattle.x86_values.specs.declared.Bits.{Bits}
use Rattle.x86_values.specs.Wrapping.{width}
use Rattle.move_goals.specs.declared.Placed.{Placed}
use Rattle.code_region.specs.State.{RegionState, int3, len_in_units, region_image}
use Rattle.code_region.specs.declared.refusals.NotTaken.{NotTaken}
use Rattle.code_region.specs.Opening.{is_bad_size, is_bad_room, empty_region}
use Rattle.code_region.specs.Placing.{place_answer, unfilled_block, after_place}
use Rattle.code_region.specs.Releasing.{release_answer, after_release}
use Rattle.code_region.specs.Filling.{with_content, after_fill}
use Rattle.code_region.specs.Laws.{AreInUnits}
use Rattle.code_region.specs.LiveEntries.Order.{AreAscending, StandsAt}
use Rattle.code_region.specs.LiveEntries.Keeping.{AreLive}
use Rattle.code_region.specs.LiveEntries.Facts.{LiveFacts}
use Rattle.step_slots.specs.declared.slots.StepSlot.{StepSlot}
use Rattle.step_slots.specs.Block.{IsStepBlock, reserved_room}
use Rattle.step_slots.specs.State.{SlotState, slot_place, slot_len, with_slot}
use Rattle.step_slots.specs.Stepping.{slots_refusal, without_slot, after_finish}
use Rattle.step_slots.specs.Holding.{SlotsAreApart, HoldsSlots}
use Rattle.step_slots.specs.Keeping.{IsSlotBlock, AreSlotsKept}
use Rattle.step_slots.specs.LawsBelow.{StepLawsBelow}

module _ (laws : StepLawsBelow) (bits : Bits) (region : RegionState) (slots : List StepSlot) (room : ℕ)
    (kept : AreSlotsKept bits region slots room) where
  live : LiveFacts slot_place (slot_len bits region.base) (IsSlotBlock bits region.base) region slots room
  live = laws.entries.live (bits, region.base) region slots room kept.live

  -- the live blocks are in units
  pub kept-units : AreInUnits region
  kept-units = λ k d h.
      let of = live.owners k d h in
      let rounded = laws.places.rounded-units (reserved_room bits region.base of.0.item) in
      (of.1.units, subst (λ (n : ℕ). n % 16 ≡ 0) (sym of.1.len) rounded)

  -- the slots stand by address
  pub kept-ascend : AreAscending slot_place 0 slots
  kept-ascend = live.ascend

  -- a step
  module _ (item : Placed) (place : ℕ) (e : place_answer region (reserved_room bits region.base item) ≡ Ok place) where
    -- there is room for it
    pub step-room : length slots < room
    step-room = live.has-room (reserved_room bits region.base item) place e

    -- **it leaves a slot more**
    pub step-kept : (bytes : List ℕ) → length bytes ≤ len_in_units (reserved_room bits region.base item)
        → IsStepBlock bits item place bytes → (more : ℕ) → room ≤ more
        → AreSlotsKept bits (after_fill (after_place region (reserved_room bits region.base item)) place bytes)
        (with_slot (record { place = place; item = item }) slots) more
    step-kept bytes fits is more roomy =
        let len = reserved_room bits region.base item in
        let slot : StepSlot = record { place = place; item = item } in
        let unit = laws.places.place-units region len place kept.live.sound kept-units e in
        let this : IsSlotBlock bits region.base slot (with_content bytes (unfilled_block place (len_in_units len))) =
        record { place = refl; len = refl; units = unit.1; bytes = bytes; is_block = is; content = refl } in
        let then = live.one-more len place e bytes fits slot refl this more roomy in
        let same = laws.fills.filled-is region len place kept.live.sound e bytes in
        subst (λ (r : RegionState). AreSlotsKept bits r (with_slot slot slots) more) (sym same)
        (record {
          inside = kept.inside;
          live = subst (λ (r : RegionState). AreLive (IsSlotBlock bits region.base) r (with_slot slot slots) more) same then;
        })

  -- **a finish leaves a slot less**
  pub finish-kept : (place : ℕ) → AreSlotsKept bits (after_release region place) (without_slot place slots) room
  unfolding after_release
  finish-kept place = record { inside = kept.inside; live = live.one-less place }

  -- a slot stands where a block is released
  pub finish-stands : (place : ℕ) → release_answer region place ≡ Ok tt → StandsAt slot_place place slots
  finish-stands place e = live.stands place e

  -- what a finish makes of all parts
  pub finish-made : (place : ℕ) (new : RegionState) → new ≡ after_release region place → (left : List StepSlot)
      → left ≡ without_slot place slots → (more : ℕ) → more ≡ room → (base : ℕ) → base ≡ region.base
      → (base ≡ new.base) × AreSlotsKept bits new left more
  unfolding after_release
  finish-made place new is left same more full base at =
      let now = after_release region place in
      let by_room = subst (λ (n : ℕ). AreSlotsKept bits now (without_slot place slots) n) (sym full) (finish-kept place) in (
        at ∙ sym (ap (λ (r : RegionState). r.base) is),
        subst (λ (r : RegionState). AreSlotsKept bits r left more) (sym is)
            (subst (λ (xs : List StepSlot). AreSlotsKept bits now xs more) (sym same) by_room),
      )

  -- what it leaves where it is refused
  pub finish-refused : (place : ℕ) (why : NotTaken) → release_answer region place ≡ Err why → (new : RegionState)
      → new ≡ after_release region place → (now : SlotState)
      → record { bits = bits; region = region; slots = slots } ≡ now
      → record { bits = bits; region = new; slots = slots } ≡ after_finish now place
  finish-refused place why e new is now same =
      let left : without_slot place slots ≡ slots = live.unchanged place why e in
      let with_region : RegionState → SlotState =
      λ (r : RegionState). record { bits = bits; region = r; slots = slots } in
      let with_slots : List StepSlot → SlotState =
      λ (xs : List StepSlot). record { bits = bits; region = after_release region place; slots = xs } in
      ap with_region is ∙ (ap with_slots (sym left) ∙ ap (λ (s : SlotState). after_finish s place) same)

  -- ---- what is seen

  kept-holds : HoldsSlots (record { bits = bits; region = region; slots = slots }) (region_image region)
  kept-holds = record {
    blocks = λ k d lt.
        let held = live.contents k d lt in
        let is = held.1.0 in
        let filled = ap (λ (n : ℕ). is.bytes ++ replicate (n - length is.bytes) int3) is.len in
        (is.bytes, (is.is_block, held.1.1 ∙ (is.content ∙ filled)));
    elsewhere = live.quiet;
  }

  -- the slots stand apart
  pub kept-seen : (now : SlotState) → record { bits = bits; region = region; slots = slots } ≡ now → SlotsAreApart now
  kept-seen now e = subst SlotsAreApart e live.apart

  -- the image has their blocks
  pub kept-image : (now : SlotState) → record { bits = bits; region = region; slots = slots } ≡ now
      → (image : List ℕ) → image ≡ region_image region → HoldsSlots now image
  kept-image now e image is =
      subst (λ (s : SlotState). HoldsSlots s image) e
      (subst (HoldsSlots (record { bits = bits; region = region; slots = slots })) (sym is) kept-holds)

-- ---- no slots

inside-made : (bits : Bits) (base size max : ℕ) → slots_refusal bits base size max ≡ None → base + size ≤ 2 ^ width bits
unfolding slots_refusal
inside-made bits base size max none =
    elim (cases_Bool (is_bad_size size)) [
      | inl bad ↦ (let f = rw bad at none in absurd cc)
      | inr good ↦ elim (cases_Bool (is_bad_room max)) [
        | inl bad ↦ (let f = rw (good, bad) at none in absurd cc)
        | inr room ↦ elim (cases_Bool (nat_lt (2 ^ width bits) (base + size))) [
          | inl past ↦ (let f = rw (good, room, past) at none in absurd cc)
          | inr fits ↦ ltb-false (2 ^ width bits) (base + size) fits
        ]
      ]
    ]

-- **slots begin with none**
pub kept-made : (laws : StepLawsBelow) (bits : Bits) (base size max : ℕ) → slots_refusal bits base size max ≡ None
    → (region : RegionState) → region ≡ empty_region base size max → (slots : List StepSlot) → slots ≡ []
    → (room : ℕ) → max ≤ room → AreSlotsKept bits region slots room
kept-made laws bits base size max none region is slots no_slots room roomy =
    subst (λ (r : RegionState). AreSlotsKept bits r slots room) (sym is)
    (subst (λ (xs : List StepSlot). AreSlotsKept bits (empty_region base size max) xs room) (sym no_slots)
    (record {
      inside = inside-made bits base size max none;
      live = laws.entries.none (bits, base) base size max room roomy;
    }))
