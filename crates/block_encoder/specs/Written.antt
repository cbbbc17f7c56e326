-- What the parts of the writing do: an instruction, an image, an item in its fragment, and the gap and slots behind a block.
use Rattle.std.specs.Prelude.{◌≡◌, ℕ, ◌+◌, ◌-◌, ◌^◌, ◌<◌, ◌==◌, Bool, true, false, if◌then◌else◌, List, [], ◌++◌, length, slice_index_or, replicate, unwrap_or, Option, Some, None, Result, Ok, Err}
use Rattle.x86_values.specs.declared.Bits.{Bits}
use Rattle.x86_values.specs.declared.Instr.{Instr}
use Rattle.plain_spelling.specs.declared.NoSpelling.{NoSpelling}
use Rattle.branch_sizes.specs.declared.plan.Branch.{Branch}
use Rattle.branch_sizes.specs.declared.plan.Goal.{Goal}
use Rattle.branch_sizes.specs.declared.plan.Goal.TheVariants.{None as NoGoal, Inside, Outside}
use Rattle.branch_sizes.specs.declared.move_layout.layout.Fragment.{Fragment}
use Rattle.branch_sizes.specs.declared.move_layout.layout.BlockEnd.{BlockEnd}
use Rattle.branch_sizes.specs.MoveLayout.Laid.{next_eighth, no_end}
use Rattle.move_goals.specs.Items.{first_passing}
use Rattle.block_encoder.specs.declared.error.PlanError.{PlanError}
use Rattle.block_encoder.specs.declared.error.PlanError.TheVariants.{Memory, TooFar}
use Rattle.block_encoder.specs.Bytes.{fragment_bytes}
use Rattle.block_encoder.specs.Moved.{IsFragmentReached}

-- an encoding at an address is appended, with the address behind it; none where there is no encoding
abbrev pub IsPieceAppended : Result (List ℕ) NoSpelling → ℕ → List ℕ → List ℕ → Option ℕ → Type 0
IsPieceAppended (Ok piece) at old new next = (new ≡ old ++ piece) × (next ≡ Some (at + length piece))
IsPieceAppended (Err why) at old new next = next ≡ None

-- bytes that there may be are appended; false where there are none
abbrev pub AreAppended : Option (List ℕ) → List ℕ → List ℕ → Bool → Type 0
AreAppended None old new done = done ≡ false
AreAppended (Some bytes) old new done = (done ≡ true) × (new ≡ old ++ bytes)

-- an instruction reaches its goal from its fragment, and its bytes are appended
abbrev pub IsFragmentWritten : Bits → Instr → Fragment → List ℕ → List ℕ → Type 0
IsFragmentWritten bits i fragment old new =
    IsFragmentReached bits i fragment × (new ≡ old ++ unwrap_or (fragment_bytes bits i fragment) [])

-- a goal as an address
abbrev pub IsGoalAddress : Goal → ℕ → Type 0
IsGoalAddress NoGoal goal = goal ≡ 0
IsGoalAddress (Inside j) goal = goal < 2 ^ 64
IsGoalAddress (Outside t) goal = goal ≡ t

-- the numbers of the fragment of an item are addresses
pub record IsFragmentOf (b : Branch) (fragment : Fragment) : Type 0 where
  pub place : fragment.place < 2 ^ 64
  pub slot : fragment.slot < 2 ^ 64
  pub goal : IsGoalAddress b.goal fragment.goal

-- item k is written, or does not reach its goal, which is told
abbrev pub IsItemWritten : Bits → Instr → Fragment → ℕ → List ℕ → List ℕ → Result Unit PlanError → Type 0
IsItemWritten bits i fragment k old new (Ok done) = (fragment.goal < 2 ^ 64) × IsFragmentWritten bits i fragment old new
IsItemWritten bits i fragment k old new (Err (TooFar at target)) = (at ≡ k) × ((target ≡ fragment.goal) × (IsFragmentReached bits i fragment → ⊥))
IsItemWritten bits i fragment k old new (Err Memory) = Unit {0}
IsItemWritten bits i fragment k old new (Err why) = ⊥

-- the gap behind images that end at an address, before so many slots
unfoldable pub gap_behind : ℕ → ℕ → List ℕ
gap_behind images slots = if slots == 0 then [] else replicate (next_eighth images - images) 0xCC

-- the first of some ends that passes the address space
abbrev pub first_end_past : Bits → List BlockEnd → Option ℕ
first_end_past bits ends = first_passing bits (λ b. (slice_index_or ends b no_end).end) (length ends)
