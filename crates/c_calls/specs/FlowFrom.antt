-- What following control from several first offsets answers, and what it leaves in the rooms.
use Rattle.std.specs.Prelude.{◌≡◌, ℕ, ◌<◌, ◌≤◌, nat_le, ◌&&◌, ℤ, List, ◌++◌, length, map, drop, Option, Some, None, IsSome, Result, Ok, Err, if◌then◌else◌}
use Rattle.x86_values.specs.declared.Bits.{Bits}
use Rattle.decoder.specs.declared.DecodeError.{DecodeError}
use Rattle.decoder.specs.declared.DecodeError.TheVariants.{Invalid as InvalidError, TooShort as TooShortError}
use Rattle.operand_info.specs.declared.columns.Flow.{Flow}
use Rattle.flow_graph.specs.declared.exits.Follow.{Follow}
use Rattle.flow_graph.specs.declared.exits.Follow.TheVariants.{Listed, Unlisted}
use Rattle.flow_graph.specs.Control.{code_bytes_with}
use Rattle.flow_graph.specs.Graphs.{Graph, IsFlowGraphFrom}
use Rattle.c_calls.specs.declared.refusal.Refusal.{Refusal}
use Rattle.c_calls.specs.declared.refusal.Refusal.TheVariants.{Mode, Room, Memory, TooLarge}
use Rattle.c_calls.specs.Numbers.{bits_numbered}
use Rattle.c_calls.specs.Info.{flow_number}
use Rattle.c_calls.specs.Flow as one

-- what control reaches from the first offsets, in a mode that there may be, through the instructions that are followed
abbrev pub IsGraphFromIn : Follow → Option Bits → ℕ → List ℕ → List ℕ → Graph → Type 0
IsGraphFromIn follow None base bytes entries graph = ⊥
IsGraphFromIn follow (Some bits) base bytes entries graph = IsFlowGraphFrom (code_bytes_with follow bits base bytes) entries graph

-- the graph, or why there is none: no mode, more than 16,777,216 bytes, or no memory
abbrev pub IsGraphFromAnswer : Follow → Option Bits → ℕ → List ℕ → List ℕ → Result Graph Refusal → Type 0
IsGraphFromAnswer follow mode base bytes entries (Ok graph) = IsGraphFromIn follow mode base bytes entries graph × (length bytes ≤ 16777216)
IsGraphFromAnswer follow mode base bytes entries (Err Mode) = mode ≡ None
IsGraphFromAnswer follow mode base bytes entries (Err TooLarge) = IsSome mode × (16777216 < length bytes)
IsGraphFromAnswer follow mode base bytes entries (Err Memory) = IsSome mode × (length bytes ≤ 16777216)
IsGraphFromAnswer follow mode base bytes entries (Err _) = ⊥

-- the number of what is read at a start: the flow of the instruction, or why none is
abbrev pub flow_kind_number : Result Flow DecodeError → ℕ
flow_kind_number (Ok flow) = flow_number flow
flow_kind_number (Err TooShortError) = 254
flow_kind_number (Err InvalidError) = 255

-- all three rooms hold the lists of the graph
unfoldable pub graph_within : ℕ → ℕ → ℕ → Result Graph Refusal → Result Graph Refusal
graph_within room other third (Ok graph) =
    if nat_le (length graph.starts) room && nat_le (length graph.starts) other && nat_le (length graph.starts) third then Ok graph else Err Room
graph_within room other third (Err why) = Err why

-- what is said, and what the rooms of the starts and the leaders are left with, is what one entry says and leaves
abbrev pub graph_said : Result Graph Refusal → ℤ
graph_said graph = one.graph_said graph

-- the room of the starts is left as one entry leaves it
abbrev pub starts_left : List ℕ → Result Graph Refusal → List ℕ
starts_left old graph = one.starts_left old graph

-- the room of the leaders is left as one entry leaves it
abbrev pub leaders_left : List ℕ → Result Graph Refusal → List ℕ
leaders_left old graph = one.leaders_left old graph

-- the room of the kinds begins with those of the starts, and is unchanged behind them and after a refusal
abbrev pub kinds_left : List ℕ → Result Graph Refusal → List ℕ
kinds_left old (Ok graph) = map flow_kind_number graph.flows ++ drop (length graph.flows) old
kinds_left old (Err why) = old

-- what a call that follows these instructions says and leaves
pub record IsFlowFollowing (follow : Follow) (bits base : ℕ) (bytes entries starts leaders kinds starts' leaders' kinds' : List ℕ) (answer : ℤ) : Type 0 where
  pub graph : Result Graph Refusal
  pub is : IsGraphFromAnswer follow (bits_numbered bits) base bytes entries graph
  pub answer_is : answer ≡ graph_said (graph_within (length starts) (length leaders) (length kinds) graph)
  pub starts_are : starts' ≡ starts_left starts (graph_within (length starts) (length leaders) (length kinds) graph)
  pub leaders_are : leaders' ≡ leaders_left leaders (graph_within (length starts) (length leaders) (length kinds) graph)
  pub kinds_are : kinds' ≡ kinds_left kinds (graph_within (length starts) (length leaders) (length kinds) graph)

-- what the call says and leaves that follows the instructions of the table alone
abbrev pub IsFlowFrom : ℕ → ℕ → List ℕ → List ℕ → List ℕ → List ℕ → List ℕ → List ℕ → List ℕ → List ℕ → ℤ → Type 0
IsFlowFrom bits base bytes entries starts leaders kinds starts' leaders' kinds' answer =
    IsFlowFollowing Listed bits base bytes entries starts leaders kinds starts' leaders' kinds' answer

-- what the call says and leaves that also follows those without a row
abbrev pub IsFlowUnlisted : ℕ → ℕ → List ℕ → List ℕ → List ℕ → List ℕ → List ℕ → List ℕ → List ℕ → List ℕ → ℤ → Type 0
IsFlowUnlisted bits base bytes entries starts leaders kinds starts' leaders' kinds' answer =
    IsFlowFollowing Unlisted bits base bytes entries starts leaders kinds starts' leaders' kinds' answer
