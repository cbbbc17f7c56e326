-- The plan by which instructions are moved of which some have no row: of each its forms and its goal.
use Rattle.std.specs.Prelude.{◌≡◌, ℕ, ◌<◌, ◌==◌, Bool, true, false, is_some, if◌then◌else◌, List, [], ◌∷◌, length, map, slice_index_or, Option, Some, None, IsTrue}
use Rattle.std.specs.List.{range_with_len}
use Rattle.x86_values.specs.declared.Bits.{Bits}
use Rattle.instruction_parts.specs.Counting.{is_64}
use Rattle.unlisted.specs.declared.Reference.{Reference}
use Rattle.unlisted.specs.declared.Reference.TheVariants.{Rip, Eip, Branch as ToBranch}
use Rattle.unlisted.specs.declared.Relative.{Relative}
use Rattle.unlisted.specs.declared.Shape.{Shape}
use Rattle.unlisted.specs.Measured.{relative_target}
use Rattle.operand_info.specs.Operands.{near_value, first_value}
use Rattle.branch_sizes.specs.declared.plan.Branch.{Branch}
use Rattle.branch_sizes.specs.declared.plan.Choice.{Choice}
use Rattle.branch_sizes.specs.declared.plan.Form.TheVariants.{Near}
use Rattle.branch_sizes.specs.declared.plan.Goal.{Goal}
use Rattle.branch_sizes.specs.declared.plan.Goal.TheVariants.{None as NoGoal, Inside, Outside}
use Rattle.branch_sizes.specs.declared.plan.Reach.{Reach}
use Rattle.branch_sizes.specs.declared.plan.Reach.TheVariants.{Always, Signed32, Below}
use Rattle.branch_sizes.specs.Plan.{BlockPlan, one_block, is_fit_goal}
use Rattle.move_goals.specs.MovedTargets.Targets.{target_of}
use Rattle.move_goals.specs.BranchForms.Choices.{choices_of}
use Rattle.move_goals.specs.Items.{first_below}
use Rattle.code_items.specs.declared.any_items.AnyItem.{AnyItem}
use Rattle.code_items.specs.declared.any_items.AnyItem.TheVariants.{Listed, Unlisted}
use Rattle.code_items.specs.AnyItems.{item_ip, any_at}

-- ---- goals

-- the address that an instruction refers to
unfoldable pub any_target : Bits → AnyItem → Option ℕ
any_target bits (Listed p) = target_of p.instr
any_target bits (Unlisted u) = relative_target bits u.ip u.shape.len u.shape.relative

-- the first instruction that began at an address
unfoldable pub first_at : List AnyItem → ℕ → Option ℕ
first_at items t = first_below (λ j. item_ip (any_at items j) == t) (length items)

-- an instruction, else the address itself
abbrev pub goal_to : Option ℕ → ℕ → Goal
goal_to (Some j) t = Inside j
goal_to None t = Outside t

-- where a target goes: with the instruction that began there, else it stays; a target in the midst of an instruction stays
abbrev pub any_goal : List AnyItem → Option ℕ → Goal
any_goal items None = NoGoal
any_goal items (Some t) = goal_to (first_at items t) t

-- a number refers to where a branch goes: that of XBEGIN
abbrev pub refers_to_branch : Option Relative → Bool
refers_to_branch None = false
refers_to_branch (Some r) = elim r.to [ Rip ↦ false | Eip ↦ false | ToBranch ↦ true ]

-- what an instruction refers to is where it branches, near: all others refer to memory
abbrev pub is_any_branch : AnyItem → Bool
is_any_branch (Listed p) = is_some (first_value near_value p.instr)
is_any_branch (Unlisted u) = refers_to_branch u.shape.relative

-- ---- forms

-- what a number reaches: at RIP, and as the distance of a branch in 64-bit mode, a signed distance of 32 bits; at EIP an address below 2 to the power of
-- 32 (2.2.1.6); outside 64-bit mode the distance of a branch comes to each address of the mode (XBEGIN)
unfoldable pub reference_reach : Bits → Reference → Reach
reference_reach bits Rip = Signed32
reference_reach bits Eip = Below 32
reference_reach bits ToBranch = if is_64 bits then Signed32 else Always

-- what the number of an instruction reaches, if it has one
abbrev pub number_reach : Bits → Option Relative → Reach
number_reach bits None = Always
number_reach bits (Some r) = reference_reach bits r.to

-- the one form of an instruction without a row: it keeps its length, and its number has as many bytes as before
abbrev pub unlisted_choice : Bits → Shape → Choice
unlisted_choice bits shape = record { form = Near; len = shape.len; reach = number_reach bits shape.relative }

-- the forms of an instruction
abbrev pub any_choices : Bits → AnyItem → List Choice
any_choices bits (Listed p) = choices_of bits p.instr
any_choices bits (Unlisted u) = unlisted_choice bits u.shape ∷ []

-- ---- the plan

-- the forms of one of some instructions, and its goal by its target
abbrev pub any_branch : Bits → List AnyItem → AnyItem → Branch
any_branch bits items item = record {
  choices = record { items = any_choices bits item };
  goal = any_goal items (any_target bits item);
}

-- the forms of instruction k, and a goal
abbrev pub any_branch_with : Bits → List AnyItem → (ℕ → Goal) → ℕ → Branch
any_branch_with bits items goals k = record {
  choices = record { items = any_choices bits (any_at items k) };
  goal = goals k;
}

-- the plan of one block at an address, of instructions that have some goals
unfoldable pub any_plan_with : Bits → List AnyItem → (ℕ → Goal) → ℕ → BlockPlan
any_plan_with bits items goals new = one_block new (map (any_branch_with bits items goals) (range_with_len 0 (length items)))

-- the goals by the targets
abbrev pub any_goals : Bits → List AnyItem → ℕ → Goal
any_goals bits items k = any_goal items (any_target bits (any_at items k))

-- the forms of instruction k, and its goal by its target
abbrev pub any_branch_at : Bits → List AnyItem → ℕ → Branch
any_branch_at bits items = any_branch_with bits items (any_goals bits items)

-- the plan by the targets
abbrev pub any_plan : Bits → List AnyItem → ℕ → BlockPlan
any_plan bits items new = any_plan_with bits items (any_goals bits items) new

-- ---- given goals

-- goal k of a list
abbrev pub goal_in : List Goal → ℕ → Goal
goal_in goals k = slice_index_or goals k NoGoal

-- each instruction has a goal that it may have: one inside is one of the instructions, and one without a goal has one form
pub record AreAnyGoals (bits : Bits) (items : List AnyItem) (goals : List Goal) : Type 0 where
  pub count : length goals ≡ length items
  pub each : (k : ℕ) → k < length items → IsTrue (is_fit_goal (length items) (length (any_choices bits (any_at items k))) (goal_in goals k))
