-- The plan by which the forms of branches are chosen: of each moved item its forms and its goal.
use Rattle.std.specs.Prelude.{ℕ, List, length, map, Option, Some, None}
use Rattle.std.specs.List.{range_with_len}
use Rattle.x86_values.specs.declared.Bits.{Bits}
use Rattle.branch_sizes.specs.declared.plan.BlockSpan.{BlockSpan}
use Rattle.branch_sizes.specs.declared.plan.Branch.{Branch}
use Rattle.branch_sizes.specs.declared.plan.Goal.{Goal}
use Rattle.branch_sizes.specs.declared.plan.Goal.TheVariants.{None as NoGoal, Outside}
use Rattle.branch_sizes.specs.Plan.{BlockPlan, plan_of}
use Rattle.move_goals.specs.MovedTargets.Targets.{target_of}
use Rattle.move_goals.specs.BranchForms.Choices.{choices_of}
use Rattle.move_goals.specs.declared.items.Placed.{Placed}
use Rattle.move_goals.specs.Items.{item_at, one_span}
use Rattle.move_goals.specs.Goals.{goal_at}
use Rattle.move_goals.specs.Starts.{goal_in}

-- item k with a goal: its forms and that goal
abbrev pub branch_with : Bits → List Placed → (ℕ → Goal) → ℕ → Branch
branch_with bits items goals k = record {
  choices = record { items = choices_of bits (item_at items k).instr };
  goal = goals k;
}

-- the plan of some blocks whose items have some goals
unfoldable pub plan_with : Bits → List BlockSpan → List Placed → (ℕ → Goal) → BlockPlan
plan_with bits spans items goals = plan_of spans (map (branch_with bits items goals) (range_with_len 0 (length items)))

-- item k of the plan of some moved blocks
abbrev pub branch_at : Bits → List BlockSpan → List Placed → ℕ → Branch
branch_at bits spans items = branch_with bits items (goal_at spans items)

-- item k of the plan of a block whose items are those from a number on, below another
abbrev pub branch_between : Bits → List Placed → ℕ → ℕ → ℕ → Branch
branch_between bits items from to k = record {
  choices = record { items = choices_of bits (item_at items k).instr };
  goal = goal_in items from to (target_of (item_at items k).instr);
}

-- the plan of some moved blocks
abbrev pub plan_for : Bits → List BlockSpan → List Placed → BlockPlan
plan_for bits spans items = plan_with bits spans items (goal_at spans items)

-- the goal of a target that stays
abbrev pub kept_goal : Option ℕ → Goal
kept_goal None = NoGoal
kept_goal (Some t) = Outside t

-- the goals of items whose targets stay
abbrev pub kept_goals : List Placed → ℕ → Goal
kept_goals items k = kept_goal (target_of (item_at items k).instr)

-- the plan of one block from which every target stays
abbrev pub plan_outside : Bits → List Placed → ℕ → BlockPlan
plan_outside bits items new_base = plan_with bits (one_span items new_base) items (kept_goals items)
