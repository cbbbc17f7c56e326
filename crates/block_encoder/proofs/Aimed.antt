-- Moved items go to their goals.
use Rattle.std.proofs.Common.{List, Result, Ok, Err, arith}
use Rattle.x86_values.specs.declared.Bits.{Bits}
use Rattle.branch_sizes.specs.declared.plan.BlockSpan.{BlockSpan}
use Rattle.branch_sizes.specs.Layout.{block_number}
use Rattle.move_goals.specs.declared.items.Placed.{Placed}
use Rattle.move_goals.specs.Items.{AreSpansOf, ArePlaced}
use Rattle.move_goals.specs.Goals.{goal_at}
use Rattle.block_encoder.specs.declared.error.MoveError.{MoveError}
use Rattle.block_encoder.specs.Moved.{MovedLists}
use Rattle.block_encoder.specs.Going.{GoToGoals}
use Rattle.block_encoder.specs.LawsBelow.{MovedLawsBelow}
use Rattle.block_encoder.proofs.Going.{goes-nowhere, goes-address, goes-near, goes-far, goes-over}
use Rattle.block_encoder.proofs.Standing.{slot-stands}

-- the image of each item goes to the goal of that item, whatever the answer is
pub go_to_goals : MovedLawsBelow → (bits : Bits) (items : List Placed) (spans : List BlockSpan) → AreSpansOf items spans → ArePlaced bits items
    → (r : Result MovedLists MoveError) → GoToGoals bits items spans r
go_to_goals laws bits items spans s placed (Err why) = tt
go_to_goals laws bits items spans s placed (Ok m) = λ moved k lt.
    let goals = goal_at spans items in
    let layout = moved.layout in
    let is_layout = moved.least.closed.is_layout in
    record {
      stays = λ none. goes-nowhere laws bits items spans goals layout k placed lt none;
      address = λ none. goes-address laws bits items spans goals layout k none;
      near = λ t some far. goes-near laws bits items spans goals layout k placed lt is_layout t some far;
      far = λ t some far. goes-far laws bits items spans goals layout k placed lt t some far;
      slot = λ far. slot-stands laws bits items spans goals layout is_layout s (block_number spans k) (laws.blocks.block_below spans k (omega (arith, lt, s.counts)))
          (λ j jl. (moved.reached j jl).1) k (laws.blocks.first_le spans k) (laws.blocks.within_block spans k (omega (arith, lt, s.counts))) far;
      over = λ n nlt. goes-over laws bits items spans goals layout k n nlt;
    }
