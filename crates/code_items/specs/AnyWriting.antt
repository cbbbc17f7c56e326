-- What the writing of instructions without a row goes by: an instruction that stands in the plan for each of them.
use Rattle.std.specs.Prelude.{◌≡◌, ℕ, ◌<◌, List, length, map, unwrap_or, slice_get, Result, Ok, Err}
use Rattle.x86_values.specs.declared.Bits.{Bits}
use Rattle.x86_values.specs.declared.Instr.{Instr}
use Rattle.branch_sizes.specs.declared.plan.Goal.{Goal}
use Rattle.branch_sizes.specs.declared.plan.Goal.TheVariants.{None as NoGoal, Inside, Outside}
use Rattle.branch_sizes.specs.Plan.{BlockPlan}
use Rattle.move_goals.specs.MovedTargets.Independent.{IsIndependent}
use Rattle.move_goals.specs.declared.items.Placed.{Placed}
use Rattle.block_encoder.specs.declared.error.PlanError.{PlanError}
use Rattle.block_encoder.specs.declared.error.PlanError.TheVariants as plan_error
use Rattle.code_items.specs.declared.any_items.AnyItem.{AnyItem}
use Rattle.code_items.specs.declared.any_items.AnyItem.TheVariants.{Listed, Unlisted}
use Rattle.code_items.specs.declared.moving.MoveCodeError.{MoveCodeError}
use Rattle.code_items.specs.declared.moving.MoveCodeError.TheVariants.{Memory, Wraps, TooFar}
use Rattle.code_items.specs.AnyPlan.{any_plan_with}
use Rattle.code_items.specs.AnyMoved.{own_bytes_at, MovedAny, IsMovedAny, IsAnyRefused}

-- an instruction without a target, which has an encoding at every address
pub record IsFiller (bits : Bits) (i : Instr) : Type 0 where
  pub bytes : List ℕ
  pub independent : IsIndependent bits i bytes
  pub operands : length i.ops ≡ 4

-- an instruction of the table stands for itself, and the filler for each other
abbrev pub stand_in : Instr → AnyItem → Placed
stand_in filler (Listed p) = p
stand_in filler (Unlisted u) = record { ip = u.ip; len = u.shape.len; instr = filler }

-- the items that are handed to the mover
abbrev pub stand_ins : Instr → List AnyItem → List Placed
stand_ins filler items = map (stand_in filler) items

-- the bytes of an instruction at a place, whose stand-in was moved to these bytes
abbrev pub bytes_for : Bits → AnyItem → List ℕ → ℕ → ℕ → List ℕ
bytes_for bits (Listed p) image place goal = image
bytes_for bits (Unlisted u) image place goal = own_bytes_at bits place u.shape.len goal u.shape.relative u.bytes.items

-- these items stand for some instructions, by a filler
pub record AreStandIns (items : List AnyItem) (placed : List Placed) : Type 0 where
  pub filler : Instr
  pub are : placed ≡ stand_ins filler items

-- a plan is that of some instructions with some goals, somewhere; a goal inside is one of the instructions
pub record IsPlanOf (bits : Bits) (items : List AnyItem) (p : BlockPlan) : Type 0 where
  pub goals : ℕ → Goal
  pub new : ℕ
  pub is : p ≡ any_plan_with bits items goals new
  pub inside : (k j : ℕ) → k < length items → goals k ≡ Inside j → j < length items

-- a goal as an address, where the instructions stand at these places
abbrev pub goal_by : List ℕ → Goal → ℕ
goal_by starts NoGoal = 0
goal_by starts (Inside j) = unwrap_or (slice_get starts j) 0
goal_by starts (Outside t) = t

-- the same cause, of code
abbrev pub code_error_of : PlanError → MoveCodeError
code_error_of plan_error.Memory = Memory
code_error_of (plan_error.Wraps end) = Wraps end
code_error_of (plan_error.TooFar at target) = TooFar at target

-- what the moving of instructions answers that are few and whose addresses ascend
abbrev pub IsAnyMoveAnswer : Bits → List AnyItem → ℕ → Result MovedAny MoveCodeError → Type 0
IsAnyMoveAnswer bits items new (Ok m) = (m.items ≡ items) × IsMovedAny bits new m
IsAnyMoveAnswer bits items new (Err Memory) = Unit {0}
IsAnyMoveAnswer bits items new (Err why) = IsAnyRefused bits items new why
