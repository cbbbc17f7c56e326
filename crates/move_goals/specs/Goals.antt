-- Where the targets of moved items go.
use Rattle.std.specs.Prelude.{ℕ, ◌==◌, Bool, not, ◌&&◌, List, length, Option, Some, None}
use Rattle.branch_sizes.specs.declared.plan.BlockSpan.{BlockSpan}
use Rattle.branch_sizes.specs.declared.plan.Goal.{Goal}
use Rattle.branch_sizes.specs.declared.plan.Goal.TheVariants.{None as NoGoal, Inside, Outside}
use Rattle.branch_sizes.specs.Layout.{block_number}
use Rattle.move_goals.specs.MovedTargets.Targets.{target_of}
use Rattle.move_goals.specs.declared.items.Placed.{Placed}
use Rattle.move_goals.specs.Items.{first_below, item_at}

-- item j stands in the block of item k
abbrev pub is_in_block_of : List BlockSpan → ℕ → ℕ → Bool
is_in_block_of spans k j = block_number spans j == block_number spans k

-- item j began at an address; old addresses are compared as plain numbers
abbrev pub begins_at : List Placed → ℕ → ℕ → Bool
begins_at items t j = (item_at items j).ip == t

-- the item of the block of item k that began at an address
unfoldable pub own_item : List BlockSpan → List Placed → ℕ → ℕ → Option ℕ
own_item spans items k t = first_below (λ j. is_in_block_of spans k j && begins_at items t j) (length items)

-- the first item of another block that began there
unfoldable pub other_item : List BlockSpan → List Placed → ℕ → ℕ → Option ℕ
other_item spans items k t = first_below (λ j. not (is_in_block_of spans k j) && begins_at items t j) (length items)

-- an item, else one of another block, else the address itself
abbrev pub goal_among : Option ℕ → Option ℕ → ℕ → Goal
goal_among (Some j) other t = Inside j
goal_among None (Some j) t = Inside j
goal_among None None t = Outside t

-- where a target of item k goes: with the item of its own block that began there, else with the first item of another block that did, else
-- it stays
unfoldable pub goal_of_target : List BlockSpan → List Placed → ℕ → ℕ → Goal
goal_of_target spans items k t = goal_among (own_item spans items k t) (other_item spans items k t) t

-- the goal of item k by its target; without a target it has none
abbrev pub goal_of : List BlockSpan → List Placed → ℕ → Option ℕ → Goal
goal_of spans items k None = NoGoal
goal_of spans items k (Some t) = goal_of_target spans items k t

-- the goal of item k
abbrev pub goal_at : List BlockSpan → List Placed → ℕ → Goal
goal_at spans items k = goal_of spans items k (target_of (item_at items k).instr)
