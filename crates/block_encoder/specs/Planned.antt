-- What the movers answer that never refuse for too many items or for the old order, in the terms of a moving.
use Rattle.std.specs.Prelude.{Result, Ok, Err}
use Rattle.block_encoder.specs.declared.error.MoveError.{MoveError}
use Rattle.block_encoder.specs.declared.error.MoveError.TheVariants.{Memory, Wraps, TooFar}
use Rattle.block_encoder.specs.declared.error.PlanError.{PlanError}
use Rattle.block_encoder.specs.declared.error.PlanError.TheVariants as plan_error
use Rattle.block_encoder.specs.Moved.{MovedLists}

-- the same cause as one of a moving
abbrev pub move_error_of : PlanError → MoveError
move_error_of plan_error.Memory = Memory
move_error_of (plan_error.Wraps end) = Wraps end
move_error_of (plan_error.TooFar at target) = TooFar at target

-- the same answer as one of a moving
abbrev pub as_moving : Result MovedLists PlanError → Result MovedLists MoveError
as_moving (Ok m) = Ok m
as_moving (Err why) = Err (move_error_of why)
