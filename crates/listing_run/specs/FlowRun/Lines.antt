-- The lines of `flow`, one for each offset that control reaches.
use Rattle.std.specs.Prelude.{◌≡◌, ℕ, List, [], ◌∷◌, ◌++◌, All, map, take, codes, Result, Ok, Err}
use Rattle.std.specs.List.{flat_map}
use Rattle.x86_values.specs.declared.Bits.{Bits}
use Rattle.row_relation.specs.Spells.{Reading}
use Rattle.decoder.specs.declared.DecodeError.{DecodeError}
use Rattle.decoder.specs.declared.DecodeError.TheVariants.{TooShort, Invalid}
use Rattle.operand_info.specs.declared.columns.Flow.{Flow}
use Rattle.sweep.specs.SweepText.Info.{flow_name}
use Rattle.sweep.specs.SweepText.Listing.{address_text}
use Rattle.flow_graph.specs.Control.{CodeBytes, IsReadIn}
use Rattle.flow_graph.specs.Told.{told_of}
use Rattle.flow_graph.specs.Graphs.{Graph}

-- a reached offset, its leader, and what is read there
pub record Stop : Type 0 where
  pub start : ℕ
  pub leader : ℕ
  pub reading : Reading

-- the word for the flow of an instruction, or for why none is read
unfoldable pub flow_word : Result Flow DecodeError → List ℕ
flow_word (Ok flow) = flow_name flow
flow_word (Err TooShort) = codes "too short"
flow_word (Err Invalid) = codes "invalid"

-- a line: the address of an offset, that of its leader, and a word, each but the first behind a space, and a line feed
unfoldable pub flow_line : Bits → ℕ → ℕ → ℕ → List ℕ → List ℕ
flow_line bits base start leader word =
    address_text bits base start ++ (32 ∷ (address_text bits base leader ++ (32 ∷ (word ++ 10 ∷ []))))

-- the line of a reached offset
abbrev pub stop_line : CodeBytes → Stop → List ℕ
stop_line code stop = flow_line code.bits code.base stop.start stop.leader (flow_word (told_of stop.reading))

-- the lines of some reached offsets, one behind another
abbrev pub stop_lines : CodeBytes → List Stop → List ℕ
stop_lines code stops = flat_map (stop_line code) stops

-- the first so many reached offsets of a graph, each with its leader and with what is read there
pub record AreStops (code : CodeBytes) (graph : Graph) (count : ℕ) (stops : List Stop) : Type 0 where
  pub starts : map (λ (s : Stop). s.start) stops ≡ take count graph.starts
  pub leaders : map (λ (s : Stop). s.leader) stops ≡ take count graph.leaders
  pub reads : All (λ (s : Stop). IsReadIn code s.start s.reading) stops
