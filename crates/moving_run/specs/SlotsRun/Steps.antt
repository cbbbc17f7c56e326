-- One instruction more of `slots`.
use Rattle.std.specs.Prelude.{◌≡◌, ℕ, List, ◌∷◌, ◌++◌, All, length, Option, Some, None, Result, Ok, Err}
use Rattle.opcode_rows.specs.Sweep.{IsSweep, Item}
use Rattle.move_goals.specs.declared.items.Placed.{Placed}
use Rattle.move_goals.specs.Items.{IsPlaced}
use Rattle.step_slots.specs.declared.refusals.StepError.{StepError}
use Rattle.step_slots.specs.declared.refusals.StepError.TheVariants as step_error
use Rattle.step_slots.specs.State.{SlotState}
use Rattle.step_slots.specs.Stepping.{IsStepped}
use Rattle.moving_run.specs.CommandWords.Ranges.{Range}
use Rattle.sweep.specs.declared.run_parts.status.Status.{Status}
use Rattle.sweep.specs.declared.run_parts.status.Status.TheVariants.{Memory, TooFar, RegionFull}
use Rattle.moving_run.specs.Code.{IsInstruction}
use Rattle.moving_run.specs.SlotsRun.Slotted.{slotted_in, empty_slots, AreSlotted}
use Rattle.moving_run.specs.SlotsRun.Slotting.{IsSlotsRefusal}

-- the status that tells why the instruction of a number gets no slot; with as many live slots as there may be no gap is left
abbrev pub step_status : ℕ → StepError → Status
step_status number (step_error.Full len largest) = RegionFull len largest
step_status number (step_error.TooManyBlocks max len) = RegionFull len 0
step_status number (step_error.TooFar target) = TooFar number target
step_status number step_error.Memory = Memory

-- an instruction got a slot, or none for a cause that is told
abbrev pub IsTried : SlotState → ℕ → Placed → Option Status → SlotState → Type 0
IsTried old number item None new = (place : ℕ) × IsStepped old item (Ok place) new
IsTried old number item (Some status) new = (why : StepError) × ((status ≡ step_status number why) × IsStepped old item (Err why) new)

-- so it is where all before it got slots; behind one that got none nothing is done
abbrev pub IsNextSlot : SlotState → Option Status → ℕ → Placed → Option Status → SlotState → Type 0
IsNextSlot old None number item told new = IsTried old number item told new
IsNextSlot old (Some status) number item told new = (told ≡ Some status) × (new ≡ old)

-- the first of some instructions that got no slot, for a cause that a status tells
pub record IsSlotRefused (old : SlotState) (items : List Placed) (status : Status) : Type 0 where
  pub before : List Placed
  pub first : Placed
  pub behind : List Placed
  pub are : items ≡ before ++ first ∷ behind
  pub state : SlotState
  pub slotted : AreSlotted old before state
  pub after : SlotState
  pub tried : IsTried state (length before) first (Some status) after

-- all of some instructions got slots, or one of them got none
abbrev pub HasCome : SlotState → List Placed → Option Status → SlotState → Type 0
HasCome old items None new = AreSlotted old items new
HasCome old items (Some status) new = IsSlotRefused old items status

-- the code has instructions alone, which can be given slots, and each of them was tried as far as that goes
pub record IsGoneThrough (range : Range) (base : ℕ) (bytes : List ℕ) (refused : Option Status) (new : SlotState) : Type 0 where
  pub items : List Item
  pub sweep : IsSweep range.bits base bytes items
  pub all : All IsInstruction items
  pub placed : All (IsPlaced range.bits) (slotted_in range.bits base items)
  pub come : HasCome (empty_slots range) (slotted_in range.bits base items) refused new

-- what going through the code gives: slots for all instructions, or a status that tells why not
abbrev pub GoesThrough : Range → ℕ → List ℕ → Result (Unit {0}) Status → SlotState → Type 0
GoesThrough range base bytes (Ok done) new = IsGoneThrough range base bytes None new
GoesThrough range base bytes (Err status) new = IsSlotsRefusal range base bytes status
