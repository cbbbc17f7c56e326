-- The block of a near CALL that pushes its own return address, at a place that the caller chooses.
use Rattle.std.specs.Prelude.{◌≡◌, ℕ, ◌+◌, List, slice_index_or, Some, None, Result, Ok, Err}
use Rattle.x86_values.specs.declared.Bits.{Bits}
use Rattle.x86_values.specs.declared.Bits.TheVariants.{B16}
use Rattle.move_goals.specs.declared.items.Placed.{Placed}
use Rattle.move_goals.specs.Plan.{plan_outside}
use Rattle.block_encoder.specs.declared.error.PlanError.{PlanError}
use Rattle.block_encoder.specs.declared.error.PlanError.TheVariants as plan_error
use Rattle.block_encoder.specs.Moved.{MovedLists}
use Rattle.block_encoder.specs.ByPlan.{IsMovedBy, IsPassBy, IsTooFarBy}
use Rattle.block_encoder.specs.PushedCalls.Items.{pushed_items}
use Rattle.step_slots.specs.declared.calling.CallError.{CallError}
use Rattle.step_slots.specs.declared.calling.CallError.TheVariants.{Memory, NotPushed, Wraps, TooFar}

-- the instructions that push the return address of the CALL and jump, moved to the place: the near jump keeps its target
pub record IsCallBlock (bits : Bits) (item : Placed) (place : ℕ) (moved : MovedLists) : Type 0 where
  pub items : List Placed
  pub are : pushed_items bits item ≡ Some items
  pub is_moved : IsMovedBy bits items (plan_outside bits items place) moved

-- they end past the address space
pub record IsCallPass (bits : Bits) (item : Placed) (place end : ℕ) : Type 0 where
  pub items : List Placed
  pub are : pushed_items bits item ≡ Some items
  pub passes : IsPassBy bits (plan_outside bits items place) end

-- one of them does not reach its target from there
pub record IsCallTooFar (bits : Bits) (item : Placed) (place target : ℕ) : Type 0 where
  pub items : List Placed
  pub are : pushed_items bits item ≡ Some items
  pub at : ℕ
  pub far : IsTooFarBy bits items (plan_outside bits items place) at target

-- the block, or why there is none
abbrev pub IsCallStood : Bits → Placed → ℕ → Result MovedLists CallError → Type 0
IsCallStood bits item place (Ok moved) = IsCallBlock bits item place moved
IsCallStood bits item place (Err NotPushed) = pushed_items bits item ≡ None
IsCallStood bits item place (Err (Wraps end)) = IsCallPass bits item place end
IsCallStood bits item place (Err (TooFar target)) = IsCallTooFar bits item place target
IsCallStood bits item place (Err Memory) = Unit {0}

-- the answer for a CALL, by that for its instructions
abbrev pub call_answer : Result MovedLists PlanError → Result MovedLists CallError
call_answer (Ok moved) = Ok moved
call_answer (Err plan_error.Memory) = Err Memory
call_answer (Err (plan_error.Wraps end)) = Err (Wraps end)
call_answer (Err (plan_error.TooFar at target)) = Err (TooFar target)

-- how many bytes the PUSH has with which the block begins
abbrev pub push_len : Bits → ℕ
push_len B16 = 3
push_len _ = 5

-- the second instruction of the block stands behind the PUSH
abbrev pub BeginsWithPush : Bits → ℕ → MovedLists → Type 0
BeginsWithPush bits place moved = slice_index_or moved.starts 1 0 ≡ place + push_len bits
