use Rattle.std.proofs.Common.{List}
use Rattle.x86_values.specs.declared.Bits.{Bits}
use Rattle.branch_sizes.specs.declared.plan.BlockSpan.{BlockSpan}
use Rattle.move_goals.specs.declared.items.Placed.{Placed}
use Rattle.move_goals.specs.Goals.{goal_at}
use Rattle.move_goals.specs.Plan.{plan_for}
use Rattle.block_encoder.specs.Moved.{MovedLists, IsMoved}
use Rattle.block_encoder.specs.ByPlan.{IsMovedBy}
use Rattle.moving_run.proofs.laws.moved_blocks_are_read_back.Goals as goal

-- moved blocks are moved by the plan of their goals
abbrev by_plan : (bits : Bits) (items : List Placed) (spans : List BlockSpan) (m : MovedLists) → IsMoved bits items spans m → IsMovedBy bits items (plan_for bits spans items) m
by_plan bits items spans m moved =
    record { layout = moved.layout; least = moved.least; ends = moved.ends; reached = moved.reached; lists = moved.lists }

pub returns : goal.returns
returns c =
    let laws = c.moved_blocks_keep_their_laws.ensures in
    record {
      reads_back = λ bits items spans s placed m moved.
          let goals = goal_at spans items in
          let by = by_plan bits items spans m moved in
          record {
            blocks = λ b lt. laws.read bits items spans goals s placed m by b lt;
            places = λ k lt. laws.places bits items spans goals s m by k lt;
            goals = λ k lt. record {
              stays = λ none. laws.stays bits items spans goals placed moved.layout k lt none;
              address = λ none. laws.address bits items spans goals placed moved.layout k lt none;
              near = λ t some near. laws.near bits items spans goals placed moved.layout moved.least.closed.is_layout k t lt some near;
              far = λ t some far. laws.far bits items spans goals placed moved.layout k t lt some far;
              slot = λ far. laws.slots bits items spans goals s m by k lt far;
              over = λ n more. laws.over bits items spans goals moved.layout k n more;
            };
          };
    }
