-- What a step and a finish answer, and the slots after them.
use Rattle.std.specs.Prelude.{◌≡◌, ℕ, ◌+◌, ◌^◌, nat_lt, if◌then◌else◌, List, Option, Some, None, Result, Ok, Err}
use Rattle.x86_values.specs.declared.Bits.{Bits}
use Rattle.x86_values.specs.Wrapping.{width}
use Rattle.move_goals.specs.declared.items.Placed.{Placed}
use Rattle.block_encoder.specs.declared.error.PlanError.{PlanError}
use Rattle.block_encoder.specs.declared.error.PlanError.TheVariants as plan_error
use Rattle.code_region.specs.declared.refusals.OpenError.{OpenError}
use Rattle.code_region.specs.declared.refusals.OpenError.TheVariants as open_error
use Rattle.code_region.specs.declared.refusals.PlaceError.{PlaceError}
use Rattle.code_region.specs.declared.refusals.PlaceError.TheVariants as place_error
use Rattle.code_region.specs.State.{RegionState, len_in_units}
use Rattle.code_region.specs.Opening.{is_bad_size, is_bad_room}
use Rattle.code_region.specs.Placing.{place_answer, after_place}
use Rattle.code_region.specs.Releasing.{after_release}
use Rattle.code_region.specs.Filling.{after_fill}
use Rattle.code_region.specs.LiveEntries.Order.{without_entry}
use Rattle.step_slots.specs.declared.slots.StepSlot.{StepSlot}
use Rattle.step_slots.specs.declared.refusals.StepError.{StepError}
use Rattle.step_slots.specs.declared.refusals.StepError.TheVariants.{Memory, TooManyBlocks, Full, TooFar}
use Rattle.step_slots.specs.Block.{IsStepBlock, IsStepOutOfReach, reserved_room}
use Rattle.step_slots.specs.State.{SlotState, slot_place, with_slot}

-- the first cause for which slots are refused, memory apart: that of the region, which ends inside the address space of the mode
unfoldable pub slots_refusal : Bits → ℕ → ℕ → ℕ → Option OpenError
slots_refusal bits base size max_blocks =
    if is_bad_size size then Some (open_error.BadSize size)
    else (if is_bad_room max_blocks then Some (open_error.TooManyBlocks max_blocks)
    else (if nat_lt (2 ^ width bits) (base + size) then Some (open_error.Wraps (base + size)) else None))

-- a refusal of a place for a length that is not 0
abbrev pub IsOfLength : PlaceError → Type 0
IsOfLength place_error.Empty = ⊥
IsOfLength (place_error.TooManyBlocks max) = Unit {0}
IsOfLength (place_error.Full len largest) = Unit {0}

-- why a step is refused then
abbrev pub place_refusal_of : PlaceError → ℕ → StepError
place_refusal_of (place_error.TooManyBlocks max) rounded_len = TooManyBlocks max rounded_len
place_refusal_of (place_error.Full len largest) rounded_len = Full len largest
place_refusal_of place_error.Empty rounded_len = Memory

-- a refusal of a block that ends inside the address space
abbrev pub IsOfReach : PlanError → Type 0
IsOfReach (plan_error.TooFar at target) = Unit {0}
IsOfReach plan_error.Memory = Unit {0}
IsOfReach (plan_error.Wraps end) = ⊥

-- why a step is refused then
abbrev pub move_refusal_of : PlanError → StepError
move_refusal_of (plan_error.TooFar at target) = TooFar target
move_refusal_of why = Memory

-- The region after a step: its block is placed and filled, or nothing changed. Full comes where there is no place for the reserved length, TooFar where
-- the instruction does not reach at the place that there is.
abbrev pub IsBlockStepped : Bits → RegionState → Placed → Result ℕ StepError → RegionState → Type 0
IsBlockStepped bits old item (Ok place) new =
    (place_answer old (reserved_room bits old.base item) ≡ Ok place)
    × ((bytes : List ℕ) × (IsStepBlock bits item place bytes × (new ≡ after_fill (after_place old (reserved_room bits old.base item)) place bytes)))
IsBlockStepped bits old item (Err (TooManyBlocks max len)) new =
    ((place_answer old (reserved_room bits old.base item) ≡ Err (place_error.TooManyBlocks max)) × (len ≡ len_in_units (reserved_room bits old.base item))) × (new ≡ old)
IsBlockStepped bits old item (Err (Full len largest)) new =
    (place_answer old (reserved_room bits old.base item) ≡ Err (place_error.Full len largest)) × (new ≡ old)
IsBlockStepped bits old item (Err (TooFar target)) new =
    ((place : ℕ) × ((place_answer old (reserved_room bits old.base item) ≡ Ok place) × IsStepOutOfReach bits item place target)) × (new ≡ old)
IsBlockStepped bits old item (Err Memory) new = new ≡ old

-- the slots after that answer
abbrev pub slots_after : Result ℕ StepError → Placed → List StepSlot → List StepSlot
slots_after (Ok place) item slots = with_slot (record { place = place; item = item }) slots
slots_after (Err why) item slots = slots

-- a step
pub record IsStepped (old : SlotState) (item : Placed) (answer : Result ℕ StepError) (new : SlotState) : Type 0 where
  pub bits : new.bits ≡ old.bits
  pub region : IsBlockStepped old.bits old.region item answer new.region
  pub slots : new.slots ≡ slots_after answer item old.slots

-- the slots without the one that starts at an address
abbrev pub without_slot : ℕ → List StepSlot → List StepSlot
without_slot place slots = without_entry slot_place place slots

-- a finish releases the block
abbrev pub after_finish : SlotState → ℕ → SlotState
after_finish state place = record state { region = after_release state.region place; slots = without_slot place state.slots }
