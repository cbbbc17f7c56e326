-- The bytes of a routine without slots: each branch reaches its target by itself.
use Rattle.std.specs.Prelude.{◌≡◌, ◌⊎◌, ℕ, List, [], slice_get, position, unwrap_or, Option, Some, None, Result, Ok, Err}
use Rattle.branch_sizes.specs.declared.plan.Form.{Form}
use Rattle.branch_sizes.specs.MoveLayout.Laid.{has_far_form, goal_address}
use Rattle.move_goals.specs.declared.items.Placed.{Placed}
use Rattle.code_assembler.specs.declared.error.FinishError.{FinishError}
use Rattle.code_assembler.specs.declared.error.FinishError.TheVariants.{Memory, Unplaced, Wraps, TooFar}
use Rattle.code_assembler.specs.Routine.{RoutineState, aim_at, routine_plan, ended}
use Rattle.code_assembler.specs.Built.{own_address}
use Rattle.code_assembler.specs.Finished.{AssembledState, IsFinished, label_address}

-- the first of some forms that goes through a slot
abbrev pub first_far : List Form → Option ℕ
first_far forms = position has_far_form forms

-- the target of an item, wherever the routine lies; 0 where it has none, or there is no item
abbrev pub target_in : Option Placed → ℕ
target_in None = 0
target_in (Some item) = own_address item.instr

-- that of item k
abbrev pub own_target : List Placed → ℕ → ℕ
own_target items k = target_in (slice_get items k)

-- the address to which an item goes in a finished routine: that of its label, or its own target
abbrev pub aimed_address : AssembledState → ℕ → Option ℕ → ℕ
aimed_address a own None = own
aimed_address a own (Some label) = unwrap_or (label_address a label) 0

-- the one to which item k goes
abbrev pub address_aimed : List (Option ℕ) → List Placed → AssembledState → ℕ → ℕ
address_aimed aims items a k = aimed_address a (own_target items k) (aim_at aims k)

-- A routine has bytes, and no item goes through a slot there: so there are no slots.
pub record IsNear (s : RoutineState) (base : ℕ) (a : AssembledState) : Type 0 where
  pub finished : IsFinished s base (Ok a)
  pub near : first_far a.moved.forms ≡ None
  pub slots : a.moved.slots ≡ []

-- A routine has bytes, and this is the first item that goes through a slot there, to this goal.
pub record IsFarAt (s : RoutineState) (base at target : ℕ) : Type 0 where
  pub made : AssembledState
  pub finished : IsFinished s base (Ok made)
  pub first : first_far made.moved.forms ≡ Some at
  pub target_is : target ≡ goal_address (routine_plan (ended s) base) finished.moved.layout at

-- The answer for a routine without slots: its bytes if no item goes through one, else the first item that does, as one that does not reach its target.
abbrev pub IsFinishedNear : RoutineState → ℕ → Result AssembledState FinishError → Type 0
IsFinishedNear s base (Ok a) = IsNear s base a
IsFinishedNear s base (Err Memory) = IsFinished s base (Err Memory)
IsFinishedNear s base (Err (Unplaced at)) = IsFinished s base (Err (Unplaced at))
IsFinishedNear s base (Err (Wraps end)) = IsFinished s base (Err (Wraps end))
IsFinishedNear s base (Err (TooFar at target)) = IsFinished s base (Err (TooFar at target)) ⊎ IsFarAt s base at target
