-- What contracts see of a `Plan`, and which plans there are.
use Rattle.std.specs.Prelude.{◌≡◌, ℕ, ◌≤◌, ◌==◌, nat_lt, nat_le, Bool, true, false, not, ◌&&◌, ◌||◌, List, [], ◌∷◌, length, slice_index_or, sum_by, IsTrue}
use Rattle.std.specs.List.{list_all}
use Rattle.branch_sizes.specs.declared.plan.BlockSpan.{BlockSpan}
use Rattle.branch_sizes.specs.declared.plan.Branch.{Branch}
use Rattle.branch_sizes.specs.declared.plan.Choice.{Choice}
use Rattle.branch_sizes.specs.declared.plan.Form.{Form}
use Rattle.branch_sizes.specs.declared.plan.Form.TheVariants.{Itself, Short, Near, Far, Bridge, FarBridge}
use Rattle.branch_sizes.specs.declared.plan.Goal.{Goal}
use Rattle.branch_sizes.specs.declared.plan.Goal.TheVariants.{None as NoGoal, Inside, Outside}
use Rattle.branch_sizes.specs.declared.plan.Reach.{Reach}
use Rattle.branch_sizes.specs.declared.plan.Reach.TheVariants.{Always, Signed8, Signed32, Below, BridgeBelow}

-- blocks, and the items of all of them in order
pub record BlockPlan : Type 0 where
  pub spans : List BlockSpan
  pub items : List Branch

-- items in blocks
abbrev pub plan_of : List BlockSpan → List Branch → BlockPlan
plan_of spans items = record { spans = spans; items = items }

-- all items in one block
abbrev pub one_block : ℕ → List Branch → BlockPlan
one_block base items = plan_of (record { count = length items; new_base = base } ∷ []) items

-- what stands for a choice that is not there
abbrev pub no_choice : Choice
no_choice = record { form = Itself; len = 0; reach = Always }

-- what stands for an item that is not there
abbrev pub no_branch : Branch
no_branch = record { choices = record { items = [] }; goal = NoGoal }

-- item k
abbrev pub item_at : BlockPlan → ℕ → Branch
item_at p k = slice_index_or p.items k no_branch

-- its choices
abbrev pub choices_at : BlockPlan → ℕ → List Choice
choices_at p k = (item_at p k).choices.items

-- choice f of item k
abbrev pub choice_at : BlockPlan → ℕ → ℕ → Choice
choice_at p k f = slice_index_or (choices_at p k) f no_choice

-- the lengths are 1 to 15 and do not fall
abbrev pub lengths_rise_from : ℕ → List Choice → Bool
lengths_rise_from low [] = true
lengths_rise_from low (c ∷ cs) = nat_le low c.len && (nat_le c.len 15 && lengths_rise_from c.len cs)

-- `Below` and `BridgeBelow` name 16 or 32 bits
abbrev pub is_fit_reach : Reach → Bool
is_fit_reach Always = true
is_fit_reach Signed8 = true
is_fit_reach Signed32 = true
is_fit_reach (Below bits) = bits == 16 || bits == 32
is_fit_reach (BridgeBelow bits inner) = bits == 16 || bits == 32

-- the forms are one form
abbrev pub is_same_form : Form → Form → Bool
is_same_form Itself Itself = true
is_same_form Short Short = true
is_same_form Near Near = true
is_same_form Far Far = true
is_same_form Bridge Bridge = true
is_same_form FarBridge FarBridge = true
is_same_form a b = false

-- no two choices have the same form
abbrev pub forms_differ : List Choice → Bool
forms_differ [] = true
forms_differ (c ∷ cs) = list_all (λ d. not (is_same_form c.form d.form)) cs && forms_differ cs

-- an item without a goal has one choice, and a goal inside is an item
abbrev pub is_fit_goal : ℕ → ℕ → Goal → Bool
is_fit_goal count choices NoGoal = choices == 1
is_fit_goal count choices (Inside j) = nat_lt j count
is_fit_goal count choices (Outside t) = true

-- an item of a plan of so many items: it has one to three choices, and each part is fit
abbrev pub is_fit_branch : ℕ → Branch → Bool
is_fit_branch count b =
    (nat_lt 0 (length b.choices.items) && nat_le (length b.choices.items) 3)
    && (lengths_rise_from 1 b.choices.items
    && (list_all (λ c. is_fit_reach c.reach) b.choices.items
    && (is_fit_goal count (length b.choices.items) b.goal
    && forms_differ b.choices.items)))

-- the conditions of a plan
pub record IsWellFormed (p : BlockPlan) : Type 0 where
  pub few_items : length p.items ≤ 65536
  pub few_spans : length p.spans ≤ 65536
  pub counts : sum_by (λ s. s.count) p.spans ≡ length p.items
  pub fit : IsTrue (list_all (is_fit_branch (length p.items)) p.items)
