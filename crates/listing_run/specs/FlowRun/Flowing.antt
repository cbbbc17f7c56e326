-- What the command `flow` leaves, by its status.
use Rattle.std.specs.Prelude.{◌≡◌, ◌⊎◌, ℕ, ◌<◌, ◌≤◌, List, length, Option, Some, None}
use Rattle.x86_values.specs.declared.Bits.{Bits}
use Rattle.byte_ports.specs.Ports.{with_back}
use Rattle.flow_graph.specs.Control.{code_bytes}
use Rattle.flow_graph.specs.Graphs.{Graph, IsFlowGraph}
use Rattle.sweep.specs.declared.run_parts.status.Status.{Status}
use Rattle.sweep.specs.declared.run_parts.status.Status.TheVariants.{Done, ReadFault, WriteFault, Memory, TooLarge}
use Rattle.sweep.specs.RunParts.Reads.{whole_limit, ReadsAll, ReadsTooMany}
use Rattle.sweep.specs.RunParts.Writing.{HoldsFront}
use Rattle.listing_run.specs.FlowRun.Lines.{Stop, AreStops, stop_lines}

-- the lines of all reached offsets of some code were written
pub record WritesFlow (bits : Bits) (base : ℕ) (bytes : List ℕ) (held held' : Option (List ℕ)) : Type 0 where
  pub graph : Graph
  pub is_graph : IsFlowGraph (code_bytes bits base bytes) graph
  pub stops : List Stop
  pub are_stops : AreStops (code_bytes bits base bytes) graph (length graph.starts) stops
  pub written : held' ≡ with_back held (stop_lines (code_bytes bits base bytes) stops)

-- the front of them was written: first bytes of the lines of first reached offsets
pub record WritesFlowFront (bits : Bits) (base : ℕ) (bytes : List ℕ) (held held' : Option (List ℕ)) : Type 0 where
  pub graph : Graph
  pub is_graph : IsFlowGraph (code_bytes bits base bytes) graph
  pub count : ℕ
  pub stops : List Stop
  pub are_stops : AreStops (code_bytes bits base bytes) graph count stops
  pub written : HoldsFront held held' (stop_lines (code_bytes bits base bytes) stops)

-- the command by its status: when each may come, and what was written then
abbrev pub FlowsAs : Bits → ℕ → Option (List ℕ) → Option (List ℕ) → Option (List ℕ) → Option (List ℕ) → Type 0 → Type 0 → Status → Type 0
FlowsAs bits base left left' held held' source_rose out_rose Done =
    (bytes : List ℕ) × (ReadsAll whole_limit left left' bytes × WritesFlow bits base bytes held held')
FlowsAs bits base left left' held held' source_rose out_rose WriteFault =
    out_rose × ((bytes : List ℕ) × (ReadsAll whole_limit left left' bytes × WritesFlowFront bits base bytes held held'))
FlowsAs bits base left left' held held' source_rose out_rose ReadFault = source_rose × (held' ≡ held)
FlowsAs bits base left left' held held' source_rose out_rose Memory = held' ≡ held
FlowsAs bits base left left' held held' source_rose out_rose (TooLarge limit) =
    (limit ≡ whole_limit) × (((bytes : List ℕ) × ReadsTooMany whole_limit left left' bytes) × (held' ≡ held))
FlowsAs bits base left left' held held' source_rose out_rose _ = ⊥

-- The command that meets no fault is done whatever the bytes are, or wants memory; above the limit it says so, or wants memory.
abbrev pub CompletesFlow : Option (List ℕ) → Status → Type 0
CompletesFlow (Some bytes) status =
    (length bytes ≤ whole_limit → (status ≡ Done) ⊎ (status ≡ Memory))
    × (whole_limit < length bytes → (status ≡ TooLarge whole_limit) ⊎ (status ≡ Memory))
CompletesFlow None status = (status ≡ Done) ⊎ ((status ≡ Memory) ⊎ (status ≡ TooLarge whole_limit))
