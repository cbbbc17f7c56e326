-- Routines: instructions and bytes of data, the labels that some instructions go to, and where the labels stand.
use Rattle.std.specs.Prelude.{◌≡◌, ◌⊎◌, ℕ, ◌+◌, ◌≤◌, ◌==◌, nat_lt, Bool, true, false, not, ◌&&◌, if◌then◌else◌, List, [], ◌∷◌, ◌++◌, length, slice_get, slice_index_or, unwrap_or, All, Option, Some, None}
use Rattle.std.specs.List.{list_any, AllZip}
use Rattle.arrayvec.specs.ArrayVec.{ArrayVec}
use Rattle.x86_values.specs.declared.Bits.{Bits}
use Rattle.branch_sizes.specs.declared.plan.Goal.{Goal}
use Rattle.branch_sizes.specs.declared.plan.Goal.TheVariants.{Inside}
use Rattle.branch_sizes.specs.Plan.{BlockPlan}
use Rattle.move_goals.specs.MovedTargets.Targets.{target_of}
use Rattle.move_goals.specs.declared.items.Placed.{Placed}
use Rattle.move_goals.specs.Items.{IsPlaced, first_below, item_at, one_span}
use Rattle.move_goals.specs.Plan.{plan_with, kept_goal}
use Rattle.move_goals.specs.Ready.{MayBeReady}
use Rattle.code_assembler.specs.StandIn.{IsFilled, stand_in}

-- what contracts see of an `Assembler`: the mode; the items in order, which are instructions and bytes of data; for each the number of the label that it
-- goes to if it goes to one, and the byte if it is data; and for each label the number of the item that it stands before, or of the end, if it has a place
pub record RoutineState : Type 0 where
  pub bits : Bits
  pub items : List Placed
  pub aims : List (Option ℕ)
  pub filled : List (Option ℕ)
  pub labels : List (Option ℕ)

-- an empty routine
abbrev pub no_lines : Bits → RoutineState
no_lines bits = record { bits = bits; items = []; aims = []; filled = []; labels = [] }

-- each item has an encoding somewhere in the mode, and a label or none; a byte of data is NOP; there are few of each
pub record IsRoutine (s : RoutineState) : Type 0 where
  pub aimed : length s.aims ≡ length s.items
  pub stand_in : AllZip (IsFilled s.bits) s.filled s.items
  pub placed : All (IsPlaced s.bits) s.items
  pub few : length s.items ≤ 65536
  pub few_labels : length s.labels ≤ 65536

-- some bytes are those of an item wherever it stands, or none
abbrev pub HasReady : Bits → Placed → ArrayVec ℕ → Type 0
HasReady bits item ready = MayBeReady bits item.instr ready.items

-- what an `Assembler` holds: a routine, and for each item the bytes that are ready
pub record IsAssembler (s : RoutineState) (ready : List (ArrayVec ℕ)) : Type 0 where
  pub routine : IsRoutine s
  pub bytes : AllZip (HasReady s.bits) s.items ready

-- ---- labels

-- where a label stands, if it has a place
abbrev pub label_place : List (Option ℕ) → ℕ → Option ℕ
label_place labels label = unwrap_or (slice_get labels label) None

-- item k as a byte of data, if it is one
abbrev pub filled_at : List (Option ℕ) → ℕ → Option ℕ
filled_at filled k = slice_index_or filled k None

-- the label that item k goes to, if it goes to one
abbrev pub aim_at : List (Option ℕ) → ℕ → Option ℕ
aim_at aims k = slice_index_or aims k None

-- of so many items there is one where a label stands
abbrev pub stands_before : ℕ → Option ℕ → Bool
stands_before count None = false
stands_before count (Some j) = nat_lt j count

-- an item goes to no label, or to one that stands before an item
abbrev pub is_aimed : List (Option ℕ) → ℕ → Option ℕ → Bool
is_aimed labels count None = true
is_aimed labels count (Some label) = stands_before count (label_place labels label)

-- the first item whose label stands before none
unfoldable pub first_unplaced : List (Option ℕ) → List (Option ℕ) → ℕ → Option ℕ
first_unplaced labels aims count = first_below (λ k. not (is_aimed labels count (aim_at aims k))) count

-- ---- the plan

-- the item where a label stands, else another goal
abbrev pub stand_goal : ℕ → Option ℕ → Goal → Goal
stand_goal count None other = other
stand_goal count (Some j) other = if nat_lt j count then Inside j else other

-- the goal of an item: the one that its label stands before, or its own target
abbrev pub aim_goal : List (Option ℕ) → ℕ → Placed → Option ℕ → Goal
aim_goal labels count item None = kept_goal (target_of item.instr)
aim_goal labels count item (Some label) = stand_goal count (label_place labels label) (kept_goal (target_of item.instr))

-- the goals of the items of a routine
abbrev pub routine_goals : List (Option ℕ) → List (Option ℕ) → List Placed → ℕ → Goal
routine_goals labels aims items k = aim_goal labels (length items) (item_at items k) (aim_at aims k)

-- the plan of a routine whose first byte lies at an address
unfoldable pub routine_plan : RoutineState → ℕ → BlockPlan
routine_plan s base = plan_with s.bits (one_span s.items base) s.items (routine_goals s.labels s.aims s.items)

-- ---- the end

-- a label stands behind so many items
abbrev pub is_behind : ℕ → Option ℕ → Bool
is_behind count None = false
is_behind count (Some j) = j == count

-- some label stands at the end of so many items, and there is room for one more
abbrev pub has_end_label : List (Option ℕ) → ℕ → Bool
has_end_label labels count = nat_lt count 65536 && list_any (is_behind count) labels

-- a routine with a byte of data behind it
abbrev pub with_byte : RoutineState → ℕ → RoutineState
with_byte s byte = record s { items = s.items ++ stand_in s.bits ∷ []; aims = s.aims ++ None ∷ []; filled = s.filled ++ Some byte ∷ [] }

-- of the items of a routine so many were added by callers: all of them, or all but the last, which is a byte of data
abbrev pub HasAdded : RoutineState → ℕ → Type 0
HasAdded s count = (count ≡ length s.items) ⊎ ((count + 1 ≡ length s.items) × (filled_at s.filled count ≡ Some 0xCC))

-- The routine whose layout is chosen: where a label stands at the end a byte CC is added for it to stand before. It is cut off again, unless slots
-- follow.
abbrev pub ended : RoutineState → RoutineState
ended s = if has_end_label s.labels (length s.items) then with_byte s 0xCC else s
