-- A mark for each byte: 0 where control does not reach it, n + 1 where it follows an instruction of n bytes, and else 1.
use Rattle.std.specs.Prelude.{◌≡◌, ℕ, ◌+◌, ◌<◌, List, [], ◌∷◌, ◌++◌, length, slice_index, slice_set, ◌==◌, if◌then◌else◌}
use Rattle.std.specs.List.{Contains}
use Rattle.std.specs.List.Sorted.{IsStrictlyIncreasing}
use Rattle.flow_graph.specs.Control.{CodeBytes}
use Rattle.flow_graph.specs.ReachedFrom.{ReachesFrom, FollowsFrom}

-- an arrival at q marks it by the first mark, and by 1 where another came before
abbrev pub marks_after : List ℕ → ℕ → ℕ → List ℕ
marks_after marks q first = slice_set marks q (if slice_index marks q == 0 then first else 1)

-- the first arrival at q puts it at the end of the order
abbrev pub order_after : List ℕ → List ℕ → ℕ → List ℕ
order_after marks order q = if slice_index marks q == 0 then order ++ q ∷ [] else order

-- by its mark, q follows an instruction at p
abbrev pub FollowsByMark : List ℕ → ℕ → ℕ → Type 0
FollowsByMark marks p q = (1 < slice_index marks q) × (p + slice_index marks q ≡ q + 1)

-- the marks tell which offsets are reached, and which of those are followers
pub record AreMarks (code : CodeBytes) (entries marks : List ℕ) : Type 0 where
  pub len : length marks ≡ length code.bytes
  pub reached : (q : ℕ) → 0 < slice_index marks q → ReachesFrom code entries q
  pub complete : (q : ℕ) → ReachesFrom code entries q → 0 < slice_index marks q
  pub leads : (q : ℕ) → slice_index marks q ≡ 1 → (p : ℕ) → FollowsFrom code entries p q → ⊥
  pub follows : (q : ℕ) → 1 < slice_index marks q → (p : ℕ) × FollowsByMark marks p q × FollowsFrom code entries p q

-- what a mark says of another offset is true: it is marked
abbrev pub AreChained : List ℕ → Type 0
AreChained marks = (q : ℕ) → 1 < slice_index marks q → (p : ℕ) × FollowsByMark marks p q × (0 < slice_index marks p)

-- the leader of an offset by the marks
pub data LeaderByMarks (marks : List ℕ) (leader : ℕ) : ℕ → Type 0 where
  itself : slice_index marks leader ≡ 1 → LeaderByMarks marks leader leader
  carried : (p q : ℕ) → FollowsByMark marks p q → LeaderByMarks marks leader p → LeaderByMarks marks leader q

-- the marked offsets below n in ascending order, with their leaders
pub record AreMarkedBelow (marks : List ℕ) (n : ℕ) (starts leaders : List ℕ) : Type 0 where
  pub len : length leaders ≡ length starts
  pub ascending : IsStrictlyIncreasing starts
  pub below : (k : ℕ) → k < length starts → slice_index starts k < n
  pub marked : (k : ℕ) → k < length starts → 0 < slice_index marks (slice_index starts k)
  pub complete : (q : ℕ) → q < n → 0 < slice_index marks q → Contains starts q
  pub led : (k : ℕ) → k < length starts → LeaderByMarks marks (slice_index leaders k) (slice_index starts k)
