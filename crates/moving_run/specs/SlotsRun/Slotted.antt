-- The instructions of some code, each given a slot in order, and why one gets none.
use Rattle.std.specs.Prelude.{◌≡◌, ℕ, ◌+◌, List, [], ◌∷◌, ◌++◌, All, length, None, Ok}
use Rattle.x86_values.specs.declared.Bits.{Bits}
use Rattle.x86_values.specs.Wrapping.{modulo_width}
use Rattle.row_relation.specs.Spells.{Reading, Read, TooShort, Invalid}
use Rattle.opcode_rows.specs.Sweep.{Item, IsSweep}
use Rattle.move_goals.specs.declared.items.Placed.{Placed}
use Rattle.code_region.specs.State.{len_in_units, gaps_of, region_image}
use Rattle.code_region.specs.Gaps.{first_gap, longest}
use Rattle.code_region.specs.Placing.{place_answer}
use Rattle.moving_run.specs.CommandWords.Ranges.{Range}
use Rattle.step_slots.specs.Block.{IsStepOutOfReach, reserved_room}
use Rattle.step_slots.specs.State.{SlotState, no_slots}
use Rattle.step_slots.specs.Stepping.{IsStepped}
use Rattle.step_slots.specs.Holding.{SlotsAreApart, HoldsSlots}
use Rattle.sweep.specs.declared.run_parts.status.Status.{Status}
use Rattle.sweep.specs.declared.run_parts.status.Status.TheVariants.{RegionFull, TooFar}
use Rattle.moving_run.specs.Code.{IsInstruction}

-- ---- the instructions

-- an instruction of the sweep with its own address, which wraps in the mode
abbrev pub slotted_by : Bits → ℕ → ℕ → Reading → List Placed
slotted_by bits base offset (Read d) = record { ip = modulo_width bits (base + offset); len = d.len; instr = d.instr } ∷ []
slotted_by bits base offset TooShort = []
slotted_by bits base offset Invalid = []

-- all of them in order
abbrev pub slotted_in : Bits → ℕ → List Item → List Placed
slotted_in bits base [] = []
slotted_in bits base (item ∷ items) = slotted_by bits base item.offset item.reading ++ slotted_in bits base items

-- ---- their slots

-- the slots with room for 65,536 of them, and none yet
abbrev pub empty_slots : Range → SlotState
empty_slots range = no_slots range.bits range.base range.size 65536

-- each of some instructions got a slot, one behind another
abbrev pub AreSlotted : SlotState → List Placed → SlotState → Type 0
AreSlotted old [] new = new ≡ old
AreSlotted old (item ∷ items) new =
    (place : ℕ) × ((state : SlotState) × (IsStepped old item (Ok place) state × AreSlotted state items new))

-- no gap has the rounded length that is reserved for an instruction: that length, and the longest gap
pub record HasNoGap (state : SlotState) (item : Placed) (len largest : ℕ) : Type 0 where
  pub missing : first_gap (len_in_units (reserved_room state.bits state.region.base item)) (gaps_of state.region) ≡ None
  pub len_is : len ≡ len_in_units (reserved_room state.bits state.region.base item)
  pub largest_is : largest ≡ longest (gaps_of state.region)

-- there is a place for an instruction, from which it does not reach its target
pub record IsTooFarAt (state : SlotState) (item : Placed) (target : ℕ) : Type 0 where
  pub place : ℕ
  pub placed : place_answer state.region (reserved_room state.bits state.region.base item) ≡ Ok place
  pub far : IsStepOutOfReach state.bits item place target

-- why the instruction of a number gets no slot
abbrev pub IsSlotRefusal : SlotState → Placed → ℕ → Status → Type 0
IsSlotRefusal state item number (RegionFull len largest) = HasNoGap state item len largest
IsSlotRefusal state item number (TooFar at target) = (at ≡ number) × IsTooFarAt state item target
IsSlotRefusal state item number _ = ⊥

-- ---- some code

-- the code has instructions alone, each got a slot, and the bytes of the range are these
pub record MakesSlots (range : Range) (base : ℕ) (bytes image : List ℕ) : Type 0 where
  pub items : List Item
  pub sweep : IsSweep range.bits base bytes items
  pub all : All IsInstruction items
  pub state : SlotState
  pub slotted : AreSlotted (empty_slots range) (slotted_in range.bits base items) state
  pub apart : SlotsAreApart state
  pub holds : HoldsSlots state image
  pub image_is : image ≡ region_image state.region

-- the code has instructions alone, and one of them is the first that gets no slot, for a cause that a status tells
pub record RefusesSlot (range : Range) (base : ℕ) (bytes : List ℕ) (status : Status) : Type 0 where
  pub items : List Item
  pub sweep : IsSweep range.bits base bytes items
  pub all : All IsInstruction items
  pub before : List Placed
  pub first : Placed
  pub behind : List Placed
  pub are : slotted_in range.bits base items ≡ before ++ first ∷ behind
  pub state : SlotState
  pub slotted : AreSlotted (empty_slots range) before state
  pub refused : IsSlotRefusal state first (length before) status
