-- What holds of step slots at any time.
use Rattle.std.specs.Prelude.{◌≡◌, ℕ, ◌+◌, ◌-◌, ◌%◌, ◌^◌, ◌≤◌, List, ◌++◌, length, replicate}
use Rattle.x86_values.specs.declared.Bits.{Bits}
use Rattle.x86_values.specs.Wrapping.{width}
use Rattle.code_region.specs.State.{LiveBlock, RegionState, int3}
use Rattle.code_region.specs.LiveEntries.Keeping.{AreLive}
use Rattle.step_slots.specs.declared.slots.StepSlot.{StepSlot}
use Rattle.step_slots.specs.Block.{IsStepBlock}
use Rattle.step_slots.specs.State.{slot_len}

-- a live block is that of a slot: it stands there, is so long, and has the bytes of the step block, filled up with INT3
pub record IsSlotBlock (bits : Bits) (base : ℕ) (slot : StepSlot) (block : LiveBlock) : Type 0 where
  pub place : block.place ≡ slot.place
  pub len : block.len ≡ slot_len bits base slot
  pub units : (block.place - base) % 16 ≡ 0
  pub bytes : List ℕ
  pub is_block : IsStepBlock bits slot.item slot.place bytes
  pub content : block.content ≡ bytes ++ replicate (block.len - length bytes) int3

-- slots in a region, with room for so many
pub record AreSlotsKept (bits : Bits) (region : RegionState) (slots : List StepSlot) (room : ℕ) : Type 0 where
  pub inside : region.base + region.size ≤ 2 ^ width bits
  pub live : AreLive (IsSlotBlock bits region.base) region slots room
