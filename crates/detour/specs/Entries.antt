-- Whether control elsewhere in a function enters what a detour takes.
use Rattle.std.specs.Prelude.{◌≡◌, ◌⊎◌, ℕ, ◌+◌, ◌<◌, ◌≤◌, List, Option, Some, None}
use Rattle.flow_graph.specs.Control.{CodeBytes, IsSuccessor}
use Rattle.flow_graph.specs.Reached.{Reaches}
use Rattle.move_goals.specs.declared.items.Placed.{Placed}
use Rattle.detour.specs.Taken.{taken_bytes, offset_at, moved_count}

-- one of the moved instructions begins at an offset
abbrev pub IsMovedStart : List Placed → ℕ → Type 0
IsMovedStart items q = (k : ℕ) × ((k < moved_count items) × (offset_at items k ≡ q))

-- Control that goes from p to q goes into the part that the items take, behind its first byte. From a moved instruction it may go to the start of one,
-- which is moved with it.
pub record IsEntry (items : List Placed) (p q : ℕ) : Type 0 where
  pub behind : 0 < q
  pub within : q < taken_bytes items
  pub from : (taken_bytes items ≤ p) ⊎ (IsMovedStart items p × (IsMovedStart items q → ⊥))

-- control may go so from a reached offset
pub record Enters (code : CodeBytes) (items : List Placed) (p q : ℕ) : Type 0 where
  pub reached : Reaches code p
  pub goes : IsSuccessor code p q
  pub entry : IsEntry items p q

-- p is the first offset from which it may
pub record IsFirstEntry (code : CodeBytes) (items : List Placed) (p q : ℕ) : Type 0 where
  pub enters : Enters code items p q
  pub first : (earlier other : ℕ) → earlier < p → Enters code items earlier other → ⊥

-- from none it may
abbrev pub IsNotEntered : CodeBytes → List Placed → Type 0
IsNotEntered code items = (p q : ℕ) → Enters code items p q → ⊥

-- the end of an instruction of so many bytes at p, if it enters; without a byte control does not go on there
abbrev pub IsNextEntry : List Placed → ℕ → ℕ → Option ℕ → Type 0
IsNextEntry items p next (Some q) = ((0 < next) × (q ≡ p + next)) × IsEntry items p q
IsNextEntry items p next None = 0 < next → IsEntry items p (p + next) → ⊥

-- the target of an instruction at p, if it has one that enters
abbrev pub IsTargetEntry : List Placed → ℕ → Option ℕ → Option ℕ → Type 0
IsTargetEntry items p target (Some q) = (target ≡ Some q) × IsEntry items p q
IsTargetEntry items p target None = (q : ℕ) → target ≡ Some q → IsEntry items p q → ⊥

-- where control enters from p, or that it does not
abbrev pub IsEntryFrom : CodeBytes → List Placed → ℕ → Option ℕ → Type 0
IsEntryFrom code items p (Some q) = IsSuccessor code p q × IsEntry items p q
IsEntryFrom code items p None = (q : ℕ) → IsSuccessor code p q → IsEntry items p q → ⊥

-- the first offset from which control enters, and where, or that there is none
abbrev pub IsEntryAnswer : CodeBytes → List Placed → Option (ℕ × ℕ) → Type 0
IsEntryAnswer code items (Some (from, target)) = IsFirstEntry code items from target
IsEntryAnswer code items None = IsNotEntered code items
