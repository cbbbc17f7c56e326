-- Where live slots stand, and what the image has there.
use Rattle.std.specs.Prelude.{◌≡◌, ℕ, ◌-◌, List, ◌++◌, All, length, replicate, take, drop}
use Rattle.x86_values.specs.declared.Bits.{Bits}
use Rattle.code_region.specs.State.{int3}
use Rattle.code_region.specs.LiveEntries.Keeping.{EntriesAreApart, IsQuietElsewhere}
use Rattle.step_slots.specs.declared.slots.StepSlot.{StepSlot}
use Rattle.step_slots.specs.Block.{IsStepBlock}
use Rattle.step_slots.specs.State.{SlotState, slot_place, slot_len}

-- the slots stand inside the region by address, and none stands over another
abbrev pub SlotsAreApart : SlotState → Type 0
SlotsAreApart state = EntriesAreApart slot_place (slot_len state.bits state.region.base) state.region state.slots

-- the bytes of a slot are those of its block, filled up with INT3
abbrev pub HasBlock : Bits → ℕ → List ℕ → StepSlot → Type 0
HasBlock bits base image slot =
    (bytes : List ℕ) × (IsStepBlock bits slot.item slot.place bytes
    × (take (slot_len bits base slot) (drop (slot.place - base) image) ≡ bytes ++ replicate (slot_len bits base slot - length bytes) int3))

-- each live slot has its block, and each byte that no slot takes is INT3
pub record HoldsSlots (state : SlotState) (image : List ℕ) : Type 0 where
  pub blocks : All (HasBlock state.bits state.region.base image) state.slots
  pub elsewhere : IsQuietElsewhere slot_place (slot_len state.bits state.region.base) state.region state.slots image
