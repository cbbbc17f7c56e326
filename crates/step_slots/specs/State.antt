-- What step slots are to their user: a region, and the live slots in it.
use Rattle.std.specs.Prelude.{ℕ, List, []}
use Rattle.x86_values.specs.declared.Bits.{Bits}
use Rattle.code_region.specs.State.{RegionState, len_in_units}
use Rattle.code_region.specs.Opening.{empty_region}
use Rattle.code_region.specs.LiveEntries.Order.{with_entry}
use Rattle.step_slots.specs.declared.slots.StepSlot.{StepSlot}
use Rattle.step_slots.specs.Block.{reserved_room}

-- the mode, the region, and the live slots by address
pub record SlotState : Type 0 where
  pub bits : Bits
  pub region : RegionState
  pub slots : List StepSlot

-- no live slot
abbrev pub no_slots : Bits → ℕ → ℕ → ℕ → SlotState
no_slots bits base size max_blocks = record { bits = bits; region = empty_region base size max_blocks; slots = [] }

-- where a slot starts
abbrev pub slot_place : StepSlot → ℕ
slot_place slot = slot.place

-- the slots with one more, by address
abbrev pub with_slot : StepSlot → List StepSlot → List StepSlot
with_slot slot slots = with_entry slot_place slot slots

-- how many bytes a slot takes in a region with a base
abbrev pub slot_len : Bits → ℕ → StepSlot → ℕ
slot_len bits base slot = len_in_units (reserved_room bits base slot.item)
