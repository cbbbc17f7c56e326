-- What following control through some code answers, and what it leaves in the rooms.
use Rattle.std.specs.Prelude.{◌≡◌, ℕ, ◌<◌, ◌≤◌, nat_le, ◌&&◌, ℤ, pos, List, ◌++◌, length, drop, Option, Some, None, IsSome, Result, Ok, Err, if◌then◌else◌}
use Rattle.x86_values.specs.declared.Bits.{Bits}
use Rattle.flow_graph.specs.Control.{code_bytes}
use Rattle.flow_graph.specs.Graphs.{Graph, IsFlowGraph}
use Rattle.c_calls.specs.declared.refusal.Refusal.{Refusal}
use Rattle.c_calls.specs.declared.refusal.Refusal.TheVariants.{Mode, Room, Memory, TooLarge}
use Rattle.c_calls.specs.Refusals.{refusal_status}
use Rattle.c_calls.specs.Numbers.{bits_numbered}

-- what control reaches in a mode that there may be
abbrev pub IsGraphIn : Option Bits → ℕ → List ℕ → Graph → Type 0
IsGraphIn None base bytes graph = ⊥
IsGraphIn (Some bits) base bytes graph = IsFlowGraph (code_bytes bits base bytes) graph

-- the graph, or why there is none: no mode, more than 1,048,576 bytes, or no memory
abbrev pub IsGraphAnswer : Option Bits → ℕ → List ℕ → Result Graph Refusal → Type 0
IsGraphAnswer mode base bytes (Ok graph) = IsGraphIn mode base bytes graph × (length bytes ≤ 1048576)
IsGraphAnswer mode base bytes (Err Mode) = mode ≡ None
IsGraphAnswer mode base bytes (Err TooLarge) = IsSome mode × (1048576 < length bytes)
IsGraphAnswer mode base bytes (Err Memory) = IsSome mode × (length bytes ≤ 1048576)
IsGraphAnswer mode base bytes (Err _) = ⊥

-- both rooms hold the lists of the graph
unfoldable pub graph_within : ℕ → ℕ → Result Graph Refusal → Result Graph Refusal
graph_within room other (Ok graph) = if nat_le (length graph.starts) room && nat_le (length graph.starts) other then Ok graph else Err Room
graph_within room other (Err why) = Err why

-- how many offsets are reached, or the refusal
abbrev pub graph_said : Result Graph Refusal → ℤ
graph_said (Ok graph) = pos (length graph.starts)
graph_said (Err why) = refusal_status why

-- the room of the starts begins with them, and is unchanged behind them and after a refusal
abbrev pub starts_left : List ℕ → Result Graph Refusal → List ℕ
starts_left old (Ok graph) = graph.starts ++ drop (length graph.starts) old
starts_left old (Err why) = old

-- the room of the leaders, likewise
abbrev pub leaders_left : List ℕ → Result Graph Refusal → List ℕ
leaders_left old (Ok graph) = graph.leaders ++ drop (length graph.leaders) old
leaders_left old (Err why) = old

-- what the call says and leaves
pub record IsFlow (bits base : ℕ) (bytes starts leaders starts' leaders' : List ℕ) (answer : ℤ) : Type 0 where
  pub graph : Result Graph Refusal
  pub is : IsGraphAnswer (bits_numbered bits) base bytes graph
  pub answer_is : answer ≡ graph_said (graph_within (length starts) (length leaders) graph)
  pub starts_are : starts' ≡ starts_left starts (graph_within (length starts) (length leaders) graph)
  pub leaders_are : leaders' ≡ leaders_left leaders (graph_within (length starts) (length leaders) graph)
