-- The trampoline of a detour: the moved instructions, and the jump back or what does a call at the end, by a plan of their own.
use Rattle.std.specs.Prelude.{ℕ, zero, suc, ◌+◌, ◌-◌, nat_lt, Bool, true, false, not, ◌&&◌, is_some, is_none, if◌then◌else◌, List, [], ◌∷◌, ◌++◌, length, take, slice_get, Option, Some, None}
use Rattle.x86_values.specs.declared.Bits.{Bits}
use Rattle.x86_values.specs.declared.Instr.{Instr}
use Rattle.x86_values.specs.Wrapping.{modulo_width}
use Rattle.operand_info.specs.Operands.{near_value, first_value}
use Rattle.branch_sizes.specs.declared.plan.Goal.{Goal}
use Rattle.branch_sizes.specs.declared.plan.Goal.TheVariants.{Inside, Outside}
use Rattle.branch_sizes.specs.Plan.{BlockPlan}
use Rattle.move_goals.specs.MovedTargets.Targets.{target_of, plain_length}
use Rattle.move_goals.specs.declared.items.Placed.{Placed}
use Rattle.move_goals.specs.Items.{first_below, item_at, one_span}
use Rattle.move_goals.specs.Goals.{begins_at}
use Rattle.move_goals.specs.Plan.{plan_with, kept_goal}
use Rattle.block_encoder.specs.Moved.{MovedLists}
use Rattle.block_encoder.specs.ByPlan.{IsMovedBy}
use Rattle.block_encoder.specs.PushedCalls.Items.{pushed_items}
use Rattle.detour.specs.declared.start.StartTarget.{StartTarget}
use Rattle.detour.specs.declared.start.StartTarget.TheVariants.{Moved, Hooked}
use Rattle.detour.specs.declared.start.MoveRule.{MoveRule}
use Rattle.detour.specs.Jumps.{near_jump_to}
use Rattle.detour.specs.Taken.{taken_bytes, moved_count, first_end}

-- ---- the instructions

-- the address behind what is taken, modulo 2 to the number of bits of the mode
abbrev pub address_behind_taken : Bits → ℕ → List Placed → ℕ
address_behind_taken bits ip items = modulo_width bits (ip + taken_bytes items)

-- the jump there, as one that stands there
abbrev pub jump_back : Bits → ℕ → Placed
jump_back bits back = record { ip = back; len = plain_length bits (near_jump_to bits back); instr = near_jump_to bits back }

-- the moved instructions: those taken, up to the first behind which control never goes on
abbrev pub moved_items : List Placed → List Placed
moved_items items = take (moved_count items) items

-- the jump back behind them, if control goes on there
abbrev pub back_items : Bits → ℕ → List Placed → List Placed
back_items bits ip items = if is_some (first_end items) then [] else jump_back bits (address_behind_taken bits ip items) ∷ []

-- ---- a call at the end

-- what does the call, if it is asked for and there is one: its return address is pushed, and a jump goes to its target
abbrev pub pushed_by : Bool → Bits → Option Placed → Option (List Placed)
pushed_by false bits item = None
pushed_by true bits None = None
pushed_by true bits (Some item) = pushed_items bits item

-- what does the call that is the last taken instruction, where the rule asks for own return addresses and control goes on behind all that is taken
unfoldable pub pushed_last : MoveRule → Bits → List Placed → Option (List Placed)
pushed_last rule bits items = pushed_by (rule.returns && is_none (first_end items)) bits (slice_get items (length items - 1))

-- control goes on behind what is taken, and no call has left: there is a jump back
abbrev pub goes_back : MoveRule → Bits → List Placed → Bool
goes_back rule bits items = is_none (first_end items) && is_none (pushed_last rule bits items)

-- the instructions of the trampoline, by what does the call at the end: the moved ones and the jump back, or those before the call, and what does it
abbrev pub block_by : Option (List Placed) → Bits → ℕ → List Placed → List Placed
block_by None bits ip items = moved_items items ++ back_items bits ip items
block_by (Some pushed) bits ip items = take (length items - 1) items ++ pushed

-- the instructions of the trampoline
unfoldable pub block_items : MoveRule → Bits → ℕ → List Placed → List Placed
block_items rule bits ip items = block_by (pushed_last rule bits items) bits ip items

-- how many of the first instructions of the trampoline may go to moved ones: all but the jump back
abbrev pub follow_count : MoveRule → Bits → ℕ → List Placed → ℕ
follow_count rule bits ip items =
    if is_some (pushed_last rule bits items) then length (block_items rule bits ip items) else moved_count items

-- ---- where they go

-- the function's own start is the moved first instruction, or stays where the jump of the detour is
abbrev pub start_goal : StartTarget → ℕ → Goal
start_goal Moved t = Inside 0
start_goal Hooked t = Outside t

-- a target where a moved instruction begins goes with it, the start of the function as that is asked; every other stays
abbrev pub trampoline_goal_among : StartTarget → Option ℕ → ℕ → Goal
trampoline_goal_among start None t = Outside t
trampoline_goal_among start (Some zero) t = start_goal start t
trampoline_goal_among start (Some (suc j)) t = Inside (suc j)

-- the goal of a target of a moved instruction
abbrev pub trampoline_goal : StartTarget → List Placed → ℕ → ℕ → Goal
trampoline_goal start items count t = trampoline_goal_among start (first_below (begins_at items t) count) t

-- the goal of one of the first `count` instructions, which are moved, by its target
abbrev pub moved_goal : StartTarget → List Placed → ℕ → Option ℕ → Goal
moved_goal start items count None = kept_goal None
moved_goal start items count (Some t) = trampoline_goal start items count t

-- the target of the instruction stays, whatever stands there: addresses at RIP and EIP stay, and it is no near branch
abbrev pub target_stays : MoveRule → Instr → Bool
target_stays rule i = rule.rip_stays && not (is_some (first_value near_value i))

-- the goal of instruction k of the trampoline: that of one of the first `follow` is sought among the first `count`, which stand for moved ones, unless its
-- target stays; the jump back behind them goes to its own target
abbrev pub trampoline_goal_at : MoveRule → List Placed → ℕ → ℕ → ℕ → Goal
trampoline_goal_at rule items count follow k =
    if nat_lt k follow && not (target_stays rule (item_at items k).instr)
    then moved_goal rule.start items count (target_of (item_at items k).instr)
    else kept_goal (target_of (item_at items k).instr)

-- the plan of the trampoline at a place, of instructions of which the first `count` stand for moved ones, and `follow` may go to these
unfoldable pub plan_at : Bits → List Placed → ℕ → ℕ → ℕ → MoveRule → BlockPlan
plan_at bits items count follow place rule = plan_with bits (one_span items place) items (trampoline_goal_at rule items count follow)

-- the plan of what is taken
abbrev pub trampoline_plan : Bits → ℕ → List Placed → ℕ → MoveRule → BlockPlan
trampoline_plan bits ip items place rule =
    plan_at bits (block_items rule bits ip items) (moved_count items) (follow_count rule bits ip items) place rule

-- the moved instructions and the jump back in the least layout, each reaching its goal, with gap and slots behind them
abbrev pub IsTrampoline : Bits → ℕ → List Placed → ℕ → MoveRule → MovedLists → Type 0
IsTrampoline bits ip items place rule m = IsMovedBy bits (block_items rule bits ip items) (trampoline_plan bits ip items place rule) m
