-- The slots of one block while its items are laid out.
use Rattle.std.specs.Prelude.{◌≡◌, ℕ, ◌+◌, ◌*◌, ◌==◌, nat_lt, if◌then◌else◌, List, length, Option, Some, None}
use Rattle.std.specs.List.{position_or_len}
use Rattle.std.specs.Ordering.{nat_cmp}
use Rattle.std.specs.BTreeMap.{BTreeMap, get}
use Rattle.branch_sizes.specs.Plan.{BlockPlan}
use Rattle.branch_sizes.specs.Layout.{item_choice, place}
use Rattle.branch_sizes.specs.declared.move_layout.layout.Fragment.{Fragment}
use Rattle.branch_sizes.specs.MoveLayout.Laid.{is_far_at, goal_address}

-- where a goal first stands among some, their number if nowhere
abbrev pub place_among : List ℕ → ℕ → ℕ
place_among goals goal = position_or_len (λ x. x == goal) goals

-- the number of a goal among some
abbrev pub number_among : List ℕ → ℕ → Option ℕ
number_among goals goal = if nat_lt (place_among goals goal) (length goals) then Some (place_among goals goal) else None

-- the map has each of the goals with its number, and no other goal
pub record IsNumbering (numbers : BTreeMap ℕ ℕ) (goals : List ℕ) : Type 0 where
  pub each : (q : ℕ) → get nat_cmp numbers q ≡ number_among goals q

-- item k, where the slots begin at an address and have some goals
abbrev pub fragment_over : BlockPlan → List ℕ → ℕ → ℕ → List ℕ → Fragment
fragment_over p layout k start goals = record {
  form = (item_choice p layout k).form;
  len = (item_choice p layout k).len;
  reach = (item_choice p layout k).reach;
  place = place p layout k;
  goal = goal_address p layout k;
  slot = if is_far_at p layout k then start + 8 * place_among goals (goal_address p layout k) else 0;
}
