-- Blocks that are moved by a plan: each item has forms and a goal there, whatever that was chosen by.
use Rattle.std.specs.Prelude.{◌≡◌, ℕ, ◌<◌, ◌≤◌, List, length, Some, None, Result, Ok, Err}
use Rattle.x86_values.specs.declared.Bits.{Bits}
use Rattle.branch_sizes.specs.Plan.{BlockPlan}
use Rattle.branch_sizes.specs.Layout.{IsLeast}
use Rattle.move_goals.specs.declared.items.Placed.{Placed}
use Rattle.move_goals.specs.Plan.{plan_outside}
use Rattle.branch_sizes.specs.MoveLayout.Laid.{goal_address}
use Rattle.block_encoder.specs.declared.error.MoveError.{MoveError}
use Rattle.block_encoder.specs.declared.error.MoveError.TheVariants.{Memory, TooMany, Wraps, TooFar}
use Rattle.block_encoder.specs.Moved.{MovedLists, IsReached, IsFirstUnreached, AreListsOf, first_new_pass}

-- in the least layout every new end is inside the address space and every item reaches its goal, and the lists are those of that layout
pub record IsMovedBy (bits : Bits) (items : List Placed) (p : BlockPlan) (m : MovedLists) : Type 0 where
  pub layout : List ℕ
  pub least : IsLeast p layout
  pub ends : first_new_pass bits p layout ≡ None
  pub reached : (k : ℕ) → k < length items → IsReached bits items p layout k
  pub lists : AreListsOf bits items p layout m

-- a new end passes the address space in the least layout: the first that does
pub record IsPassBy (bits : Bits) (p : BlockPlan) (end : ℕ) : Type 0 where
  pub layout : List ℕ
  pub least : IsLeast p layout
  pub passes : first_new_pass bits p layout ≡ Some end

-- no new end does, and an item does not reach its goal there: the first that does not
pub record IsTooFarBy (bits : Bits) (items : List Placed) (p : BlockPlan) (at target : ℕ) : Type 0 where
  pub layout : List ℕ
  pub least : IsLeast p layout
  pub ends : first_new_pass bits p layout ≡ None
  pub first : IsFirstUnreached bits items p layout at
  pub target_is : target ≡ goal_address p layout at

-- the answer by a plan
abbrev pub IsPlanAnswer : Bits → List Placed → BlockPlan → Result MovedLists MoveError → Type 0
IsPlanAnswer bits items p (Ok m) = IsMovedBy bits items p m
IsPlanAnswer bits items p (Err (Wraps end)) = IsPassBy bits p end
IsPlanAnswer bits items p (Err (TooFar at target)) = IsTooFarBy bits items p at target
IsPlanAnswer bits items p (Err Memory) = Unit {0}
IsPlanAnswer bits items p (Err why) = ⊥

-- the answer of a moving from which every target stays: at most 65,536 items, and what their plan says
abbrev pub IsOutsideAnswer : Bits → List Placed → ℕ → Result MovedLists MoveError → Type 0
IsOutsideAnswer bits items new_base (Err (TooMany count)) = (65536 < length items) × (count ≡ length items)
IsOutsideAnswer bits items new_base answer = (length items ≤ 65536) × IsPlanAnswer bits items (plan_outside bits items new_base) answer
