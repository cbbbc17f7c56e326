-- What finds the item that began at an address.
use Rattle.std.specs.Prelude.{◌≡◌, ℕ, ◌<◌, ◌≤◌, Bool, ◌&&◌, nat_le, nat_lt, List, length, Option, Some, None}
use Rattle.std.specs.BTreeMap.{BTreeMap, get}
use Rattle.std.specs.Ordering.{nat_cmp}
use Rattle.branch_sizes.specs.declared.plan.Goal.{Goal}
use Rattle.branch_sizes.specs.declared.plan.Goal.TheVariants.{None as NoGoal}
use Rattle.move_goals.specs.declared.items.Placed.{Placed}
use Rattle.move_goals.specs.Items.{first_below, item_at}
use Rattle.move_goals.specs.Goals.{begins_at, goal_among}

-- at each address the first of n items that began there
pub record AreStartsBelow (items : List Placed) (n : ℕ) (starts : BTreeMap ℕ ℕ) : Type 0 where
  pub each : (t : ℕ) → get nat_cmp starts t ≡ first_below (begins_at items t) n

-- a number from one on, below another
abbrev pub is_between : ℕ → ℕ → ℕ → Bool
is_between from to j = nat_le from j && nat_lt j to

-- the first of the items from one on, below another, that began at an address
abbrev pub first_between : List Placed → ℕ → ℕ → ℕ → Option ℕ
first_between items from to t = first_below (λ j. is_between from to j && begins_at items t j) (length items)

-- the addresses of those items ascend
pub record Ascend (items : List Placed) (from to : ℕ) : Type 0 where
  pub each : (i j : ℕ) → from ≤ i → i < j → j < to → (item_at items i).ip < (item_at items j).ip

-- the goal of a target of an item among them
abbrev pub goal_between : List Placed → ℕ → ℕ → ℕ → Goal
goal_between items from to t = goal_among (first_between items from to t) (first_below (begins_at items t) (length items)) t

-- the goal of an item among them, by its target
abbrev pub goal_in : List Placed → ℕ → ℕ → Option ℕ → Goal
goal_in items from to None = NoGoal
goal_in items from to (Some t) = goal_between items from to t
