-- Moved blocks: what a moving gives, and when it is refused.
use Rattle.std.specs.Prelude.{◌≡◌, ◌⊎◌, ℕ, ◌+◌, ◌<◌, ◌≤◌, List, length, map, Option, Some, None, IsSome, Result, Ok, Err}
use Rattle.std.specs.List.{range_with_len}
use Rattle.x86_values.specs.declared.Bits.{Bits}
use Rattle.x86_values.specs.declared.Instr.{Instr}
use Rattle.branch_sizes.specs.declared.plan.BlockSpan.{BlockSpan}
use Rattle.branch_sizes.specs.declared.plan.Form.{Form}
use Rattle.branch_sizes.specs.declared.plan.Form.TheVariants.{Itself}
use Rattle.branch_sizes.specs.declared.plan.Reach.{Reach}
use Rattle.branch_sizes.specs.Plan.{BlockPlan}
use Rattle.branch_sizes.specs.Layout.{IsLeast, Reaches, item_choice, place}
use Rattle.move_goals.specs.MovedTargets.Targets.{target_reach}
use Rattle.move_goals.specs.declared.items.Placed.{Placed}
use Rattle.move_goals.specs.Items.{item_at, first_disorder, first_passing, first_old_pass}
use Rattle.move_goals.specs.Plan.{plan_for}
use Rattle.branch_sizes.specs.declared.move_layout.layout.Fragment.{Fragment}
use Rattle.branch_sizes.specs.MoveLayout.Laid.{goal_address, fragment_at, new_end, all_slots}
use Rattle.block_encoder.specs.declared.error.MoveError.{MoveError}
use Rattle.block_encoder.specs.declared.error.MoveError.TheVariants.{Memory, TooMany, OldOrder, Wraps, TooFar}
use Rattle.block_encoder.specs.Bytes.{fragment_bytes, bytes_of_blocks}

-- what a moving gives: the bytes of the blocks one behind another, the new place and the form of each item, the goals in the slots, and the
-- offset behind each block with its gap and slots
pub record MovedLists : Type 0 where
  pub bytes : List ℕ
  pub starts : List ℕ
  pub forms : List Form
  pub slots : List ℕ
  pub ends : List ℕ

-- ---- reach

-- what an item in a form reaches: a branch what its form reaches, anything else what its operand at RIP or EIP reaches
abbrev pub fragment_reach : Instr → Form → Reach → Reach
fragment_reach i Itself reach = target_reach i
fragment_reach i form reach = reach

-- an instruction reaches its goal from its fragment: its form does, and each instruction of its image has a plain spelling at its place
abbrev pub IsFragmentReached : Bits → Instr → Fragment → Type 0
IsFragmentReached bits i fragment =
    Reaches (fragment_reach i fragment.form fragment.reach) fragment.len fragment.place fragment.goal × IsSome (fragment_bytes bits i fragment)

-- item k does in a layout
abbrev pub IsReached : Bits → List Placed → BlockPlan → List ℕ → ℕ → Type 0
IsReached bits items p layout k = IsFragmentReached bits (item_at items k).instr (fragment_at p layout k)

-- item k is the first that does not
pub record IsFirstUnreached (bits : Bits) (items : List Placed) (p : BlockPlan) (layout : List ℕ) (k : ℕ) : Type 0 where
  pub within : k < length items
  pub unreached : IsReached bits items p layout k → ⊥
  pub before : (j : ℕ) → j < k → IsReached bits items p layout j

-- ---- the answer

-- the first new end that passes the address space
abbrev pub first_new_pass : Bits → BlockPlan → List ℕ → Option ℕ
first_new_pass bits p layout = first_passing bits (new_end p layout) (length p.spans)

-- the old items are few, in order, and inside the address space
pub record IsOldSound (bits : Bits) (items : List Placed) (spans : List BlockSpan) : Type 0 where
  pub few : length items ≤ 65536
  pub order : first_disorder spans items ≡ None
  pub ends : first_old_pass bits spans items ≡ None

-- the lists are those of a layout
pub record AreListsOf (bits : Bits) (items : List Placed) (p : BlockPlan) (layout : List ℕ) (m : MovedLists) : Type 0 where
  pub bytes : m.bytes ≡ bytes_of_blocks bits items p layout (length p.spans)
  pub starts : m.starts ≡ map (place p layout) (range_with_len 0 (length items))
  pub forms : m.forms ≡ map (λ k. (item_choice p layout k).form) (range_with_len 0 (length items))
  pub slots : m.slots ≡ all_slots p layout (length p.spans)
  pub ends : m.ends ≡ map (λ b. length (bytes_of_blocks bits items p layout (b + 1))) (range_with_len 0 (length p.spans))

-- the blocks are moved: in the least layout every new end is inside the address space and every item reaches its goal
pub record IsMoved (bits : Bits) (items : List Placed) (spans : List BlockSpan) (m : MovedLists) : Type 0 where
  pub old : IsOldSound bits items spans
  pub layout : List ℕ
  pub least : IsLeast (plan_for bits spans items) layout
  pub ends : first_new_pass bits (plan_for bits spans items) layout ≡ None
  pub reached : (k : ℕ) → k < length items → IsReached bits items (plan_for bits spans items) layout k
  pub lists : AreListsOf bits items (plan_for bits spans items) layout m

-- a new end passes the address space in the least layout: the first that does
pub record IsNewPass (bits : Bits) (items : List Placed) (spans : List BlockSpan) (end : ℕ) : Type 0 where
  pub old : IsOldSound bits items spans
  pub layout : List ℕ
  pub least : IsLeast (plan_for bits spans items) layout
  pub passes : first_new_pass bits (plan_for bits spans items) layout ≡ Some end

-- an item does not reach its goal in the least layout: the first that does not
pub record IsTooFar (bits : Bits) (items : List Placed) (spans : List BlockSpan) (at target : ℕ) : Type 0 where
  pub old : IsOldSound bits items spans
  pub layout : List ℕ
  pub least : IsLeast (plan_for bits spans items) layout
  pub ends : first_new_pass bits (plan_for bits spans items) layout ≡ None
  pub first : IsFirstUnreached bits items (plan_for bits spans items) layout at
  pub target_is : target ≡ goal_address (plan_for bits spans items) layout at

-- an old end passes the address space: the first that does
pub record IsOldPass (bits : Bits) (items : List Placed) (spans : List BlockSpan) (end : ℕ) : Type 0 where
  pub few : length items ≤ 65536
  pub order : first_disorder spans items ≡ None
  pub passes : first_old_pass bits spans items ≡ Some end

-- when a moving is refused, and by what
abbrev pub IsRefused : Bits → List Placed → List BlockSpan → MoveError → Type 0
IsRefused bits items spans (TooMany count) = (65536 < length items) × (count ≡ length items)
IsRefused bits items spans (OldOrder at) = (length items ≤ 65536) × (first_disorder spans items ≡ Some at)
IsRefused bits items spans (Wraps end) = IsOldPass bits items spans end ⊎ IsNewPass bits items spans end
IsRefused bits items spans (TooFar at target) = IsTooFar bits items spans at target
IsRefused bits items spans Memory = (length items ≤ 65536) × (first_disorder spans items ≡ None)

-- the answer of a moving
abbrev pub IsAnswer : Bits → List Placed → List BlockSpan → Result MovedLists MoveError → Type 0
IsAnswer bits items spans (Ok m) = IsMoved bits items spans m
IsAnswer bits items spans (Err why) = IsRefused bits items spans why
