-- What holds of all step slots.
use Rattle.std.specs.Prelude.{◌≡◌, ℕ, ◌<◌, ◌≤◌, List, [], None, Ok}
use Rattle.x86_values.specs.declared.Bits.{Bits}
use Rattle.move_goals.specs.declared.items.Placed.{Placed}
use Rattle.move_goals.specs.Items.{IsPlaced}
use Rattle.code_region.specs.State.{RegionState, len_in_units}
use Rattle.code_region.specs.Opening.{empty_region}
use Rattle.code_region.specs.Laws.{AreInUnits}
use Rattle.step_slots.specs.declared.slots.StepSlot.{StepSlot}
use Rattle.step_slots.specs.Block.{reserved_room}
use Rattle.step_slots.specs.State.{SlotState, with_slot}
use Rattle.step_slots.specs.Stepping.{slots_refusal, IsBlockStepped}
use Rattle.step_slots.specs.Holding.{SlotsAreApart}
use Rattle.step_slots.specs.Keeping.{AreSlotsKept}

-- slots in a region, from none on, step by step
pub record LiveSlotFacts : Type 0 where
  pub kept-made : (bits : Bits) (base size max : ℕ) → slots_refusal bits base size max ≡ None → (region : RegionState) →
      region ≡ empty_region base size max → (slots : List StepSlot) → slots ≡ [] → (room : ℕ) → max ≤ room → AreSlotsKept bits region slots room
  -- one slot more
  pub stepped-made : (bits : Bits) (region : RegionState) (slots : List StepSlot) (room : ℕ) → AreSlotsKept bits region slots room →
      (item : Placed) → IsPlaced bits item → (place : ℕ) (new : RegionState) → IsBlockStepped bits region item (Ok place) new →
      (more : ℕ) → room ≤ more → (made : List StepSlot) → made ≡ with_slot (record { place = place; item = item }) slots →
      (base : ℕ) → base ≡ region.base → (base ≡ new.base) × AreSlotsKept bits new made more
  -- the live blocks are in units, and the slots apart
  pub kept-units : (bits : Bits) (region : RegionState) (slots : List StepSlot) (room : ℕ) → AreSlotsKept bits region slots room → AreInUnits region
  pub kept-seen : (bits : Bits) (region : RegionState) (slots : List StepSlot) (room : ℕ) → AreSlotsKept bits region slots room →
      (now : SlotState) → record { bits = bits; region = region; slots = slots } ≡ now → SlotsAreApart now

-- the bytes that are reserved for an instruction
pub record ReservedFacts : Type 0 where
  pub reserved-some : (bits : Bits) (item : Placed) → IsPlaced bits item → (base : ℕ) → 0 < reserved_room bits base item
  pub reserved-short : (bits : Bits) (item : Placed) → IsPlaced bits item → (base : ℕ) → reserved_room bits base item ≤ 53
  pub rounded-above : (n : ℕ) → n ≤ 53 → n ≤ len_in_units n
