-- The trampoline of a detour where some instructions have no row: the moved instructions, and the jump back or what does a call at the end.
use Rattle.std.specs.Prelude.{ℕ, ◌-◌, nat_lt, Bool, not, ◌&&◌, if◌then◌else◌, List, ◌++◌, length, map, take, Option, Some, None}
use Rattle.std.specs.List.{range_with_len}
use Rattle.x86_values.specs.declared.Bits.{Bits}
use Rattle.branch_sizes.specs.declared.plan.Goal.{Goal}
use Rattle.branch_sizes.specs.Plan.{BlockPlan}
use Rattle.move_goals.specs.declared.items.Placed.{Placed}
use Rattle.move_goals.specs.Plan.{kept_goal}
use Rattle.block_encoder.specs.Moved.{MovedLists}
use Rattle.code_items.specs.declared.any_items.AnyItem.{AnyItem}
use Rattle.code_items.specs.declared.any_items.AnyItem.TheVariants.{Listed}
use Rattle.code_items.specs.AnyItems.{any_at}
use Rattle.code_items.specs.AnyPlan.{any_target, is_any_branch, any_plan_with, goal_in}
use Rattle.code_items.specs.AnyMoved.{IsMovedAnyBy}
use Rattle.detour.specs.declared.start.MoveRule.{MoveRule}
use Rattle.detour.specs.Taken.{moved_count}
use Rattle.detour.specs.Trampoline.{back_items, pushed_last, block_items, follow_count, moved_goal}
use Rattle.detour.specs.AnyTaken.{outline}

-- ---- the instructions

-- instructions of the table, among others
abbrev pub listed : Placed → AnyItem
listed p = Listed p

-- the instructions of the trampoline, by what does the call at the end: the moved ones and the jump back, or those before the call, and what does it
abbrev pub any_block_by : Option (List Placed) → Bits → ℕ → List AnyItem → List AnyItem
any_block_by None bits ip items = take (moved_count (outline bits items)) items ++ map listed (back_items bits ip (outline bits items))
any_block_by (Some pushed) bits ip items = take (length items - 1) items ++ map listed pushed

-- the instructions of the trampoline
unfoldable pub any_block_items : MoveRule → Bits → ℕ → List AnyItem → List AnyItem
any_block_items rule bits ip items = any_block_by (pushed_last rule bits (outline bits items)) bits ip items

-- ---- where they go

-- what the instruction refers to stays, whatever stands there: addresses at RIP and EIP stay, and it is no near branch
abbrev pub any_target_stays : MoveRule → AnyItem → Bool
any_target_stays rule x = rule.rip_stays && not (is_any_branch x)

-- The goal of instruction k of the trampoline, whose instructions have these lines: that of one of the first `follow` is sought among the first `count`,
-- which stand for moved ones, unless what it refers to stays; the jump back behind them goes to its own target.
abbrev pub any_trampoline_goal : MoveRule → Bits → List Placed → List AnyItem → ℕ → ℕ → ℕ → Goal
any_trampoline_goal rule bits lines items count follow k =
    if nat_lt k follow && not (any_target_stays rule (any_at items k))
    then moved_goal rule.start lines count (any_target bits (any_at items k))
    else kept_goal (any_target bits (any_at items k))

-- the goals of all of them
abbrev pub any_trampoline_goals : MoveRule → Bits → List Placed → List AnyItem → ℕ → ℕ → List Goal
any_trampoline_goals rule bits lines items count follow = map (any_trampoline_goal rule bits lines items count follow) (range_with_len 0 (length items))

-- the goals of the trampoline of what is taken
unfoldable pub goals_of_taken : MoveRule → Bits → ℕ → List AnyItem → List Goal
goals_of_taken rule bits ip items =
    let lines = outline bits items in
    any_trampoline_goals rule bits (block_items rule bits ip lines) (any_block_items rule bits ip items) (moved_count lines) (follow_count rule bits ip lines)

-- the plan of what is taken
abbrev pub any_trampoline_plan : Bits → ℕ → List AnyItem → ℕ → MoveRule → BlockPlan
any_trampoline_plan bits ip items place rule = any_plan_with bits (any_block_items rule bits ip items) (goal_in (goals_of_taken rule bits ip items)) place

-- the moved instructions and the jump back in the least layout, each reaching its goal, with gap and slots behind them
abbrev pub IsAnyTrampoline : Bits → ℕ → List AnyItem → ℕ → MoveRule → MovedLists → Type 0
IsAnyTrampoline bits ip items place rule m = IsMovedAnyBy bits (any_block_items rule bits ip items) (any_trampoline_plan bits ip items place rule) m
