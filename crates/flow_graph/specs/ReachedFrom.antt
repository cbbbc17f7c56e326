-- The offsets that control reaches from several first offsets, and the basic blocks that they stand in.
use Rattle.std.specs.Prelude.{◌≡◌, ℕ, ◌<◌, List, length}
use Rattle.std.specs.List.{Contains}
use Rattle.flow_graph.specs.Control.{CodeBytes, IsSuccessor, EndsAt}

-- the least set that has each first offset within the code, and with each offset its successors: a first offset outside the code adds nothing
pub data ReachesFrom (code : CodeBytes) (entries : List ℕ) : ℕ → Type 0 where
  start : (q : ℕ) → Contains entries q → q < length code.bytes → ReachesFrom code entries q
  step : (p q : ℕ) → ReachesFrom code entries p → IsSuccessor code p q → ReachesFrom code entries q

-- q is a follower: no first offset, and of the reached offsets p alone leads to it, and p, whose instruction ends there, leads nowhere else
pub record FollowsFrom (code : CodeBytes) (entries : List ℕ) (p q : ℕ) : Type 0 where
  pub no_entry : Contains entries q → ⊥
  pub reached : ReachesFrom code entries p
  pub successor : IsSuccessor code p q
  pub ends : EndsAt code p q
  pub only : (r : ℕ) → IsSuccessor code p r → r ≡ q
  pub alone : (r : ℕ) → ReachesFrom code entries r → IsSuccessor code r q → r ≡ p

-- a reached offset that is no follower
pub record IsLeaderFrom (code : CodeBytes) (entries : List ℕ) (q : ℕ) : Type 0 where
  pub reached : ReachesFrom code entries q
  pub no_follower : (p : ℕ) → FollowsFrom code entries p q → ⊥

-- the leader of an offset: of a leader itself, and of a follower that of the offset that it follows
pub data LeaderFrom (code : CodeBytes) (entries : List ℕ) (leader : ℕ) : ℕ → Type 0 where
  itself : IsLeaderFrom code entries leader → LeaderFrom code entries leader leader
  carried : (p q : ℕ) → FollowsFrom code entries p q → LeaderFrom code entries leader p → LeaderFrom code entries leader q
