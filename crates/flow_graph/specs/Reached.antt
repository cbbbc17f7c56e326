-- The offsets that control reaches from the first byte, and the basic blocks that they stand in.
use Rattle.std.specs.Prelude.{◌≡◌, ℕ, ◌<◌, length}
use Rattle.flow_graph.specs.Control.{CodeBytes, IsSuccessor, EndsAt}

-- the least set that has 0, where there are bytes, and with each offset its successors
pub data Reaches (code : CodeBytes) : ℕ → Type 0 where
  start : 0 < length code.bytes → Reaches code 0
  step : (p q : ℕ) → Reaches code p → IsSuccessor code p q → Reaches code q

-- q is a follower: of the reached offsets p alone leads to it, and p, whose instruction ends there, leads nowhere else
pub record Follows (code : CodeBytes) (p q : ℕ) : Type 0 where
  pub behind_entry : 0 < q
  pub reached : Reaches code p
  pub successor : IsSuccessor code p q
  pub ends : EndsAt code p q
  pub only : (r : ℕ) → IsSuccessor code p r → r ≡ q
  pub alone : (r : ℕ) → Reaches code r → IsSuccessor code r q → r ≡ p

-- a reached offset that is no follower
pub record IsLeader (code : CodeBytes) (q : ℕ) : Type 0 where
  pub reached : Reaches code q
  pub no_follower : (p : ℕ) → Follows code p q → ⊥

-- the leader of an offset: of a leader itself, and of a follower that of the offset that it follows
pub data LeaderOf (code : CodeBytes) (leader : ℕ) : ℕ → Type 0 where
  itself : IsLeader code leader → LeaderOf code leader leader
  carried : (p q : ℕ) → Follows code p q → LeaderOf code leader p → LeaderOf code leader q
