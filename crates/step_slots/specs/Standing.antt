-- The block of an instruction at a place that the caller chooses.
use Rattle.std.specs.Prelude.{◌≡◌, ℕ, ◌-◌, ◌%◌, ◌≤◌, List, length, Result, Ok, Err}
use Rattle.x86_values.specs.declared.Bits.{Bits}
use Rattle.move_goals.specs.declared.items.Placed.{Placed}
use Rattle.block_encoder.specs.Moved.{MovedLists}
use Rattle.block_encoder.specs.ByPlan.{IsMovedBy, IsPassBy}
use Rattle.step_slots.specs.declared.standing.StandError.{StandError}
use Rattle.step_slots.specs.declared.standing.StandError.TheVariants.{Memory, Wraps, TooFar}
use Rattle.step_slots.specs.Block.{step_items, step_plan, IsStepOutOfReach, reserved_room}

-- the instruction and the jump back, moved to the place; or that the block ends past the address space, or the instruction does not reach its target
abbrev pub IsStood : Bits → Placed → ℕ → Result MovedLists StandError → Type 0
IsStood bits item place (Ok moved) = IsMovedBy bits (step_items bits item) (step_plan bits item place) moved
IsStood bits item place (Err (Wraps end)) = IsPassBy bits (step_plan bits item place) end
IsStood bits item place (Err (TooFar target)) = IsStepOutOfReach bits item place target
IsStood bits item place (Err Memory) = Unit {0}

-- the bytes are no more than those that are reserved by any base that stands a multiple of 16 bytes before the place
abbrev pub FitsReserved : Bits → Placed → ℕ → List ℕ → Type 0
FitsReserved bits item place bytes =
    (base : ℕ) → base ≤ place → (place - base) % 16 ≡ 0 → length bytes ≤ reserved_room bits base item
