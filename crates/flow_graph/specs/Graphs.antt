-- The offsets that control reaches, and their leaders, as lists.
use Rattle.std.specs.Prelude.{◌≡◌, ℕ, ◌<◌, List, length, slice_index, Result}
use Rattle.std.specs.List.{All, Contains}
use Rattle.std.specs.List.Sorted.{IsStrictlyIncreasing}
use Rattle.flow_graph.specs.Control.{CodeBytes}
use Rattle.flow_graph.specs.Reached.{Reaches, LeaderOf}
use Rattle.flow_graph.specs.ReachedFrom.{ReachesFrom, LeaderFrom}
use Rattle.flow_graph.specs.Told.{Tells, told_at}
use Rattle.decoder.specs.declared.DecodeError.{DecodeError}
use Rattle.operand_info.specs.declared.columns.Flow.{Flow}

-- what contracts see of a `FlowGraph`
pub record Graph : Type 0 where
  pub starts : List ℕ
  pub leaders : List ℕ
  pub flows : List (Result Flow DecodeError)

-- the starts are the reached offsets in ascending order, and beside each stand its leader and what is told of it
pub record IsFlowGraph (code : CodeBytes) (graph : Graph) : Type 0 where
  pub len : length graph.leaders ≡ length graph.starts
  pub flows_len : length graph.flows ≡ length graph.starts
  pub ascending : IsStrictlyIncreasing graph.starts
  pub reached : All (Reaches code) graph.starts
  pub complete : (q : ℕ) → Reaches code q → Contains graph.starts q
  pub led : (k : ℕ) → k < length graph.starts → LeaderOf code (slice_index graph.leaders k) (slice_index graph.starts k)
  pub told : (k : ℕ) → k < length graph.starts → Tells code (slice_index graph.starts k) (told_at graph.flows k)

-- the graph of what is reached from several first offsets: each once, in order, with the first offset of its basic block and its flow
pub record IsFlowGraphFrom (code : CodeBytes) (entries : List ℕ) (graph : Graph) : Type 0 where
  pub len : length graph.leaders ≡ length graph.starts
  pub flows_len : length graph.flows ≡ length graph.starts
  pub ascending : IsStrictlyIncreasing graph.starts
  pub reached : All (ReachesFrom code entries) graph.starts
  pub complete : (q : ℕ) → ReachesFrom code entries q → Contains graph.starts q
  pub led : (k : ℕ) → k < length graph.starts → LeaderFrom code entries (slice_index graph.leaders k) (slice_index graph.starts k)
  pub told : (k : ℕ) → k < length graph.starts → Tells code (slice_index graph.starts k) (told_at graph.flows k)
