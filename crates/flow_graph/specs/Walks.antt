-- A walk along control: the marks, the order in which offsets were first arrived at, and the edges that were gone along.
use Rattle.std.specs.Prelude.{◌≡◌, ℕ, ◌+◌, ◌<◌, ◌≤◌, List, length, Option, Some, None, slice_index, ◌==◌, nat_lt, ◌⊎◌, if◌then◌else◌}
use Rattle.std.specs.List.{count_by, Contains}
use Rattle.flow_graph.specs.declared.exits.Exits.{Exits}
use Rattle.flow_graph.specs.Control.{CodeBytes, IsSuccessor, EndsAt}
use Rattle.flow_graph.specs.Marks.{marks_after, order_after}
use Rattle.flow_graph.specs.ReachedFrom.{ReachesFrom, FollowsFrom}

-- some edges from offset to offset
abbrev pub Edges : Type 1
Edges = ℕ → ℕ → Type 0

-- the edges from the first n offsets of the order
pub record IsTreated (code : CodeBytes) (order : List ℕ) (n p q : ℕ) : Type 0 where
  pub place : ℕ
  pub early : place < n
  pub offset : slice_index order place ≡ p
  pub successor : IsSuccessor code p q

-- the edges from the first n offsets of the order, and the edge from p to the end of its instruction
abbrev pub IsTreatedOrNext : CodeBytes → List ℕ → ℕ → ℕ → Exits → Edges
IsTreatedOrNext code order n p exits r q =
    IsTreated code order n r q ⊎ ((r ≡ p) × (0 < exits.next) × (q ≡ p + exits.next))

-- the mark that the end of an instruction of n bytes has behind the first arrival: it may follow that, unless there is a target beside
abbrev pub mark_of_end : Option ℕ → ℕ → ℕ
mark_of_end None n = 1 + n
mark_of_end (Some target) n = 1

-- the marks behind the edge from p to the end of its instruction, if there is one
abbrev pub next_marks : List ℕ → ℕ → Exits → List ℕ
next_marks marks p exits =
    if nat_lt 0 exits.next then marks_after marks (p + exits.next) (mark_of_end exits.target exits.next) else marks

-- the order behind it
abbrev pub next_order : List ℕ → List ℕ → ℕ → Exits → List ℕ
next_order marks order p exits = if nat_lt 0 exits.next then order_after marks order (p + exits.next) else order

-- of the edges gone along, one alone leads to q, from p, whose instruction ends there and leads nowhere else
pub record FollowsSoFar (code : CodeBytes) (gone : Edges) (p q : ℕ) : Type 0 where
  pub edge : gone p q
  pub ends : EndsAt code p q
  pub only : (r : ℕ) → IsSuccessor code p r → r ≡ q
  pub alone : (r : ℕ) → gone r q → r ≡ p

-- each offset of the order is reached and stands there once; the marked offsets are those; and each mark is right so far
pub record IsWalk (code : CodeBytes) (entries marks order : List ℕ) (gone : Edges) : Type 0 where
  pub len : length marks ≡ length code.bytes
  pub unmarked : count_by (λ m. m == 0) marks + length order ≡ length marks
  pub entry : (q : ℕ) → Contains entries q → q < length code.bytes → slice_index marks q ≡ 1
  pub reached : (k : ℕ) → k < length order → ReachesFrom code entries (slice_index order k)
  pub marked : (k : ℕ) → k < length order → 0 < slice_index marks (slice_index order k)
  pub listed : (q : ℕ) → 0 < slice_index marks q → (k : ℕ) × (k < length order) × (slice_index order k ≡ q)
  pub apart : (i j : ℕ) → i < length order → j < length order → slice_index order i ≡ slice_index order j → i ≡ j
  pub sound : (p q : ℕ) → gone p q → ReachesFrom code entries p × IsSuccessor code p q
  pub arrived : (p q : ℕ) → gone p q → 0 < slice_index marks q
  pub leads : (q : ℕ) → slice_index marks q ≡ 1 → (p : ℕ) → FollowsFrom code entries p q → ⊥
  pub follows : (q : ℕ) → 1 < slice_index marks q → (p : ℕ) × (p + slice_index marks q ≡ q + 1) × FollowsSoFar code gone p q

-- the marks behind a first offset, if there is a byte
abbrev pub entered_marks : List ℕ → ℕ → List ℕ
entered_marks marks q = if nat_lt q (length marks) then marks_after marks q 1 else marks

-- the order behind it
abbrev pub entered_order : List ℕ → List ℕ → ℕ → List ℕ
entered_order marks order q = if nat_lt q (length marks) then order_after marks order q else order

-- the order has each marked offset once
pub record IsOrder (marks order : List ℕ) : Type 0 where
  pub unmarked : count_by (λ m. m == 0) marks + length order ≡ length marks
  pub marked : (k : ℕ) → k < length order → 0 < slice_index marks (slice_index order k)
  pub listed : (q : ℕ) → 0 < slice_index marks q → (k : ℕ) × (k < length order) × (slice_index order k ≡ q)
  pub apart : (i j : ℕ) → i < length order → j < length order → slice_index order i ≡ slice_index order j → i ≡ j

-- the first n of the first offsets are marked, as far as there are bytes, by 1, and no other offset is
pub record IsStarted (entries : List ℕ) (count n : ℕ) (marks order : List ℕ) : Type 0 where
  pub len : length marks ≡ count
  pub once : IsOrder marks order
  pub entry : (k : ℕ) → k < n → slice_index entries k < count → 0 < slice_index marks (slice_index entries k)
  pub only : (q : ℕ) → 0 < slice_index marks q → (slice_index marks q ≡ 1) × (q < count) × Contains entries q

-- the second order begins with the first
pub record Extends (old new : List ℕ) : Type 0 where
  pub longer : length old ≤ length new
  pub same : (k : ℕ) → k < length old → slice_index new k ≡ slice_index old k
