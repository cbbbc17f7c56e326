-- The bytes of a routine, and when there are none.
use Rattle.std.specs.Prelude.{◌≡◌, ℕ, ◌-◌, ◌<◌, nat_lt, List, length, take, drop, slice_get, Option, Some, None, Result, Ok, Err}
use Rattle.branch_sizes.specs.Layout.{image_length, place}
use Rattle.branch_sizes.specs.MoveLayout.Laid.{goal_address}
use Rattle.block_encoder.specs.declared.error.MoveError.TheVariants as move_error
use Rattle.block_encoder.specs.declared.error.PlanError.{PlanError}
use Rattle.block_encoder.specs.declared.error.PlanError.TheVariants as plan_error
use Rattle.block_encoder.specs.Bytes.{bytes_at, image_at}
use Rattle.block_encoder.specs.Moved.{MovedLists}
use Rattle.block_encoder.specs.ByPlan.{IsMovedBy, IsPlanAnswer}
use Rattle.block_encoder.specs.Aims.{StandsAtPlace, GoesToGoal}
use Rattle.block_encoder.specs.Read.{IsReadAsImages, AreRead}
use Rattle.code_assembler.specs.declared.error.FinishError.{FinishError}
use Rattle.code_assembler.specs.declared.error.FinishError.TheVariants.{Memory, Unplaced, Wraps, TooFar}
use Rattle.code_assembler.specs.Routine.{RoutineState, aim_at, filled_at, label_place, first_unplaced, routine_plan, ended}
use Rattle.code_assembler.specs.Filling.{with_data, cut_end}

-- what contracts see of an `Assembled`: the bytes; the moved items, where NOPs stand for data; how many items were added; and where the labels stand
pub record AssembledState : Type 0 where
  pub bytes : List ℕ
  pub moved : MovedLists
  pub count : ℕ
  pub labels : List (Option ℕ)

-- the address of the item that a label stands before
abbrev pub start_at : List ℕ → Option ℕ → Option ℕ
start_at starts None = None
start_at starts (Some k) = slice_get starts k

-- the address of a label, if it stands before an item or at the end
abbrev pub label_address : AssembledState → ℕ → Option ℕ
label_address a label = start_at a.moved.starts (label_place a.labels label)

-- the bytes of moved items with their data, of which so many were added
abbrev pub finished_bytes : MovedLists → List (Option ℕ) → ℕ → ℕ → List ℕ
finished_bytes m filled base count = cut_end (nat_lt count (length filled)) m.slots (with_data m.starts base filled m.bytes (length filled))

-- the same cause, of a routine
abbrev pub finish_error_of : PlanError → FinishError
finish_error_of plan_error.Memory = Memory
finish_error_of (plan_error.Wraps end) = Wraps end
finish_error_of (plan_error.TooFar at target) = TooFar at target

-- what a move gives, with its data and where the labels stand
abbrev pub made_of : MovedLists → List (Option ℕ) → List (Option ℕ) → ℕ → ℕ → AssembledState
made_of m filled labels base count = record { bytes = finished_bytes m filled base count; moved = m; count = count; labels = labels }

-- an answer is what a move gives, or there was no memory
abbrev pub IsMade : Result MovedLists PlanError → List (Option ℕ) → List (Option ℕ) → ℕ → ℕ → Result AssembledState FinishError → Type 0
IsMade (Ok m) filled labels base count (Ok a) = a ≡ made_of m filled labels base count
IsMade (Ok m) filled labels base count (Err why) = why ≡ Memory
IsMade (Err plan_why) filled labels base count (Ok a) = ⊥
IsMade (Err plan_why) filled labels base count (Err why) = why ≡ finish_error_of plan_why

-- Item k goes to a label: what its image is aimed at is the address of the label.
pub record GoesToLabel (s : RoutineState) (base : ℕ) (layout : List ℕ) (a : AssembledState) (k label : ℕ) : Type 0 where
  pub stands : ℕ
  pub before : label_place s.labels label ≡ Some stands
  pub within : stands < length s.items
  pub address : label_address a label ≡ Some (place (routine_plan s base) layout stands)
  pub goal : goal_address (routine_plan s base) layout k ≡ place (routine_plan s base) layout stands

-- The bytes of a routine to whose items at most one was added for labels at the end. The moved items are those of the least layout: the sweep of their
-- bytes, in which NOPs stand for data, gives the images of the items in order, each at its place. Each image goes to its goal, which is the address of its
-- label if it has one; each label that stands before an item has the address of that. The bytes are these, with the data in place of the NOPs, and without
-- the item that was added if no slots follow. So without data they are these; each instruction has the bytes of its image at its place, and is read there
-- as that; and each byte of data is at its place.
pub record IsLaidOut (s : RoutineState) (base count : ℕ) (a : AssembledState) : Type 0 where
  pub all_stand : first_unplaced s.labels s.aims (length s.items) ≡ None
  pub moved : IsMovedBy s.bits s.items (routine_plan s base) a.moved
  pub labels : a.labels ≡ s.labels
  pub added : a.count ≡ count
  pub read : IsReadAsImages s.bits s.items (routine_plan s base) moved.layout 0
  pub places : (k : ℕ) → k < length s.items → StandsAtPlace s.bits s.items (routine_plan s base) moved.layout 0 k
  pub goals : (k : ℕ) → k < length s.items → GoesToGoal s.bits s.items (routine_plan s base) moved.layout 0 k
  pub to_labels : (k label : ℕ) → k < length s.items → aim_at s.aims k ≡ Some label → GoesToLabel s base moved.layout a k label
  pub addresses : (label j : ℕ) → label_place s.labels label ≡ Some j → j < length s.items
      → label_address a label ≡ Some (place (routine_plan s base) moved.layout j)
  pub bytes : a.bytes ≡ finished_bytes a.moved s.filled base count
  pub plain : ((k : ℕ) → k < length s.items → filled_at s.filled k ≡ None) → a.bytes ≡ a.moved.bytes
  pub code : (k : ℕ) → k < count → filled_at s.filled k ≡ None
      → take (image_length (routine_plan s base) moved.layout k) (drop (place (routine_plan s base) moved.layout k - base) a.bytes)
      ≡ bytes_at s.bits s.items (routine_plan s base) moved.layout k
  pub decoded : (k : ℕ) → k < count → filled_at s.filled k ≡ None
      → AreRead s.bits (place (routine_plan s base) moved.layout k)
      (take (image_length (routine_plan s base) moved.layout k) (drop (place (routine_plan s base) moved.layout k - base) a.bytes))
      (image_at s.bits s.items (routine_plan s base) moved.layout k)
  pub filled : (k byte : ℕ) → k < count → filled_at s.filled k ≡ Some byte
      → slice_get a.bytes (place (routine_plan s base) moved.layout k - base) ≡ Some byte

-- the answer for a routine to whose items at most one was added: the bytes, or the first cause that there are none
abbrev pub IsLaidAnswer : RoutineState → ℕ → ℕ → Result AssembledState FinishError → Type 0
IsLaidAnswer s base count (Ok a) = IsLaidOut s base count a
IsLaidAnswer s base count (Err (Unplaced at)) = first_unplaced s.labels s.aims (length s.items) ≡ Some at
IsLaidAnswer s base count (Err (Wraps end)) =
    (first_unplaced s.labels s.aims (length s.items) ≡ None) × IsPlanAnswer s.bits s.items (routine_plan s base) (Err (move_error.Wraps end))
IsLaidAnswer s base count (Err (TooFar at target)) =
    (first_unplaced s.labels s.aims (length s.items) ≡ None) × IsPlanAnswer s.bits s.items (routine_plan s base) (Err (move_error.TooFar at target))
IsLaidAnswer s base count (Err Memory) = first_unplaced s.labels s.aims (length s.items) ≡ None

-- the answer for a routine
abbrev pub IsFinished : RoutineState → ℕ → Result AssembledState FinishError → Type 0
IsFinished s base answer = IsLaidAnswer (ended s) base (length s.items) answer
