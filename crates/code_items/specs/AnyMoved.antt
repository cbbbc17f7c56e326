-- What moving some code gives of which some instructions have no row, and why it is refused.
use Rattle.std.specs.Prelude.{◌≡◌, ◌⊎◌, ℕ, ◌+◌, ◌<◌, ◌≤◌, List, [], ◌++◌, length, map, take, drop, unwrap_or, Option, Some, None, Result, Ok, Err}
use Rattle.std.specs.List.{flat_map, range_with_len}
use Rattle.x86_values.specs.declared.Bits.{Bits}
use Rattle.x86_values.specs.declared.Bits.TheVariants.{B64}
use Rattle.x86_values.specs.Wrapping.{modulo_width}
use Rattle.plain_spelling.specs.Values.{low_bytes, distance}
use Rattle.unlisted.specs.declared.Relative.{Relative}
use Rattle.unlisted.specs.Measured.{reference_size}
use Rattle.branch_sizes.specs.declared.plan.Form.{Form}
use Rattle.branch_sizes.specs.Plan.{BlockPlan}
use Rattle.branch_sizes.specs.Layout.{IsLeast, Reaches, item_choice, place}
use Rattle.branch_sizes.specs.declared.move_layout.layout.Fragment.{Fragment}
use Rattle.branch_sizes.specs.MoveLayout.Laid.{goal_address, fragment_at, slots_of, all_slots}
use Rattle.block_encoder.specs.Bytes.{fragment_bytes, gap_bytes, slot_bytes}
use Rattle.block_encoder.specs.declared.error.PlanError.{PlanError}
use Rattle.block_encoder.specs.declared.error.PlanError.TheVariants as plan_error
use Rattle.block_encoder.specs.Moved.{MovedLists, IsFragmentReached, first_new_pass}
use Rattle.block_encoder.specs.ByPlan.{IsPassBy}
use Rattle.code_items.specs.declared.any_items.AnyItem.{AnyItem}
use Rattle.code_items.specs.declared.any_items.AnyItem.TheVariants.{Listed, Unlisted}
use Rattle.code_items.specs.declared.moving.MoveCodeError.{MoveCodeError}
use Rattle.code_items.specs.declared.moving.MoveCodeError.TheVariants.{BadCode, Memory, TooMany, Wraps, TooFar}
use Rattle.code_items.specs.Items.{old_pass}
use Rattle.code_items.specs.AnyItems.{any_at, AreAnyItemsOf, StopsAtAny}
use Rattle.code_items.specs.AnyPlan.{any_plan}

-- ---- one instruction in its fragment: its form, its place and its goal

-- the number with which an instruction of `len` bytes at a place refers to a goal: the goal, minus the address behind the instruction (2.2.1.6)
unfoldable pub number_to : Bits → ℕ → ℕ → ℕ → Relative → ℕ
number_to bits place len goal r = distance (reference_size bits r.to) (modulo_width B64 (place + len)) goal

-- the bytes of an instruction without a row at a place: all are what they were, but for the number, which refers to the goal
unfoldable pub own_bytes_at : Bits → ℕ → ℕ → ℕ → Option Relative → List ℕ → List ℕ
own_bytes_at bits place len goal None own = own
own_bytes_at bits place len goal (Some r) own =
    take r.at own ++ (low_bytes r.len (number_to bits place len goal r) ++ drop (r.at + r.len) own)

-- the bytes of an instruction in its fragment; one of the table has those of its image, as every moved instruction
unfoldable pub any_bytes : Bits → AnyItem → Fragment → List ℕ
any_bytes bits (Listed p) fragment = unwrap_or (fragment_bytes bits p.instr fragment) []
any_bytes bits (Unlisted u) fragment = own_bytes_at bits fragment.place u.shape.len fragment.goal u.shape.relative u.bytes.items

-- an instruction reaches its goal from its fragment
abbrev pub IsAnyReached : Bits → AnyItem → Fragment → Type 0
IsAnyReached bits (Listed p) fragment = IsFragmentReached bits p.instr fragment
IsAnyReached bits (Unlisted u) fragment = Reaches fragment.reach fragment.len fragment.place fragment.goal

-- ---- all of them

-- the instructions, and the block that they were moved to
pub record MovedAny : Type 0 where
  pub items : List AnyItem
  pub bytes : List ℕ
  pub starts : List ℕ
  pub forms : List Form
  pub slots : List ℕ

-- each instruction has a new address and a form
pub record AreBesideAny (items : List AnyItem) (m : MovedLists) : Type 0 where
  pub starts : length m.starts ≡ length items
  pub forms : length m.forms ≡ length items

-- the bytes of the block in a layout: of each instruction in order, and behind them the gap and the slots
unfoldable pub any_block_bytes : Bits → List AnyItem → BlockPlan → List ℕ → List ℕ
any_block_bytes bits items p layout =
    flat_map (λ k. any_bytes bits (any_at items k) (fragment_at p layout k)) (range_with_len 0 (length items))
    ++ (gap_bytes p layout 0 ++ slot_bytes (slots_of p layout 0))

-- instruction k is the first that does not reach its goal
pub record IsFirstAnyUnreached (bits : Bits) (items : List AnyItem) (p : BlockPlan) (layout : List ℕ) (k : ℕ) : Type 0 where
  pub within : k < length items
  pub unreached : IsAnyReached bits (any_at items k) (fragment_at p layout k) → ⊥
  pub before : (j : ℕ) → j < k → IsAnyReached bits (any_at items j) (fragment_at p layout j)

-- In the least layout of a plan the new end is inside the address space, each instruction reaches its goal, and the bytes, addresses and forms are those
-- of that layout.
pub record IsMovedAnyBy (bits : Bits) (items : List AnyItem) (p : BlockPlan) (m : MovedLists) : Type 0 where
  pub layout : List ℕ
  pub least : IsLeast p layout
  pub ends : first_new_pass bits p layout ≡ None
  pub reached : (k : ℕ) → k < length items → IsAnyReached bits (any_at items k) (fragment_at p layout k)
  pub bytes : m.bytes ≡ any_block_bytes bits items p layout
  pub starts : m.starts ≡ map (place p layout) (range_with_len 0 (length items))
  pub forms : m.forms ≡ map (λ k. (item_choice p layout k).form) (range_with_len 0 (length items))
  pub slots : m.slots ≡ all_slots p layout 1

-- the new end is inside the address space, and an instruction does not reach its goal: the first that does not
pub record IsAnyTooFarBy (bits : Bits) (items : List AnyItem) (p : BlockPlan) (at target : ℕ) : Type 0 where
  pub layout : List ℕ
  pub least : IsLeast p layout
  pub ends : first_new_pass bits p layout ≡ None
  pub first : IsFirstAnyUnreached bits items p layout at
  pub target_is : target ≡ goal_address p layout at

-- what the moving of instructions by a plan answers: the block, or why there is none
abbrev pub IsAnyPlanAnswer : Bits → List AnyItem → BlockPlan → Result MovedLists PlanError → Type 0
IsAnyPlanAnswer bits items p (Ok m) = IsMovedAnyBy bits items p m
IsAnyPlanAnswer bits items p (Err plan_error.Memory) = Unit {0}
IsAnyPlanAnswer bits items p (Err (plan_error.Wraps end)) = IsPassBy bits p end
IsAnyPlanAnswer bits items p (Err (plan_error.TooFar at target)) = IsAnyTooFarBy bits items p at target

-- the lists of moved code
abbrev pub lists_of : MovedAny → MovedLists
lists_of m = record { bytes = m.bytes; starts = m.starts; forms = m.forms; slots = m.slots; ends = [] }

-- its instructions are moved by the plan of their targets
abbrev pub IsMovedAny : Bits → ℕ → MovedAny → Type 0
IsMovedAny bits new m = IsMovedAnyBy bits m.items (any_plan bits m.items new) (lists_of m)

-- one of them does not reach its goal: the first that does not
abbrev pub IsAnyTooFar : Bits → List AnyItem → ℕ → ℕ → ℕ → Type 0
IsAnyTooFar bits items new at target = IsAnyTooFarBy bits items (any_plan bits items new) at target

-- ---- the answer

-- the code has instructions alone, few, and ends inside the address space; and they are moved
pub record IsMovedAnyCode (bits : Bits) (old : ℕ) (bytes : List ℕ) (new : ℕ) (m : MovedAny) : Type 0 where
  pub are : AreAnyItemsOf bits old bytes m.items
  pub few : length m.items ≤ 65536
  pub inside : old_pass bits old bytes ≡ None
  pub moved : IsMovedAny bits new m

-- why instructions are not moved, which are few and end inside the address space: the new end, or the first that does not reach its goal
abbrev pub IsAnyRefused : Bits → List AnyItem → ℕ → MoveCodeError → Type 0
IsAnyRefused bits items new (Wraps end) = IsPassBy bits (any_plan bits items new) end
IsAnyRefused bits items new (TooFar at target) = IsAnyTooFar bits items new at target
IsAnyRefused bits items new why = ⊥

-- why code is not moved that has instructions alone: by their number, by its end, or by the moving of its instructions
abbrev pub IsAnyCodeRefused : Bits → ℕ → List ℕ → List AnyItem → ℕ → MoveCodeError → Type 0
IsAnyCodeRefused bits old bytes items new (TooMany count) = (65536 < length items) × (count ≡ length items)
IsAnyCodeRefused bits old bytes items new (Wraps end) =
    (length items ≤ 65536)
    × ((old_pass bits old bytes ≡ Some end) ⊎ ((old_pass bits old bytes ≡ None) × IsPassBy bits (any_plan bits items new) end))
IsAnyCodeRefused bits old bytes items new (TooFar at target) =
    (length items ≤ 65536) × (old_pass bits old bytes ≡ None) × IsAnyTooFar bits items new at target
IsAnyCodeRefused bits old bytes items new why = ⊥

-- the instructions of the code, by which it is refused
pub record RefusesAnyCode (bits : Bits) (old : ℕ) (bytes : List ℕ) (new : ℕ) (why : MoveCodeError) : Type 0 where
  pub items : List AnyItem
  pub are : AreAnyItemsOf bits old bytes items
  pub refused : IsAnyCodeRefused bits old bytes items new why

-- the moved code, or the first cause why it is not moved; for want of memory at any point
abbrev pub IsAnyCodeAnswer : Bits → ℕ → List ℕ → ℕ → Result MovedAny MoveCodeError → Type 0
IsAnyCodeAnswer bits old bytes new (Ok m) = IsMovedAnyCode bits old bytes new m
IsAnyCodeAnswer bits old bytes new (Err (BadCode at e)) = StopsAtAny bits old bytes at e
IsAnyCodeAnswer bits old bytes new (Err Memory) = Unit {0}
IsAnyCodeAnswer bits old bytes new (Err why) = RefusesAnyCode bits old bytes new why
