-- Where the instructions of moved blocks go.
use Rattle.std.specs.Prelude.{ℕ, ◌<◌, List, length, Result, Ok, Err}
use Rattle.x86_values.specs.declared.Bits.{Bits}
use Rattle.branch_sizes.specs.declared.plan.BlockSpan.{BlockSpan}
use Rattle.branch_sizes.specs.Layout.{block_number}
use Rattle.move_goals.specs.declared.items.Placed.{Placed}
use Rattle.move_goals.specs.Plan.{plan_for}
use Rattle.block_encoder.specs.declared.error.MoveError.{MoveError}
use Rattle.block_encoder.specs.Aims.{GoesToGoal}
use Rattle.block_encoder.specs.Moved.{MovedLists, IsMoved}

-- if blocks are moved, the image of each item goes to the goal of that item
abbrev pub GoToGoals : Bits → List Placed → List BlockSpan → Result MovedLists MoveError → Type 0
GoToGoals bits items spans (Ok m) =
    (moved : IsMoved bits items spans m) (k : ℕ) → k < length items
    → GoesToGoal bits items (plan_for bits spans items) moved.layout (block_number spans k) k
GoToGoals bits items spans (Err why) = Unit {0}
