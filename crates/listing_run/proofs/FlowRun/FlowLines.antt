-- The lines of the reached offsets, one more at a time.
use Rattle.std.proofs.Common.{◌≡◌, ℕ, ◌+◌, ◌<◌, List, [], ◌∷◌, ◌++◌, length, get_or, take, Option, map, refl, sym, ap, ◌∙◌, subst, arith, add-one}
use Rattle.std.proofs.Math.Seq.{take-suc}
use Rattle.std.proofs.lemmas.List.{map-append, flat_map_more}
use Rattle.std.proofs.lemmas.List.Elements.{All-nil, All-cons, All-append}
use Rattle.byte_ports.specs.Ports.{with_back}
use Rattle.x86_values.specs.declared.Bits.{Bits}
use Rattle.row_relation.specs.Spells.{Reading}
use Rattle.flow_graph.specs.Control.{CodeBytes, IsReadIn, code_bytes}
use Rattle.flow_graph.specs.Told.{told_at}
use Rattle.flow_graph.specs.Graphs.{Graph, IsFlowGraph}
use Rattle.sweep.specs.RunParts.Facts.{HeldFacts}
use Rattle.sweep.specs.RunParts.Writing.{HoldsFront, Moves, HeldText}
use Rattle.listing_run.specs.FlowRun.Lines.{Stop, flow_word, flow_line, stop_line, stop_lines, AreStops}
use Rattle.listing_run.specs.FlowRun.Flowing.{WritesFlow, WritesFlowFront}

-- the first so many offsets have their lines: those went to the sink or are held back
pub record Progress (code : CodeBytes) (graph : Graph) (count : ℕ) (start held : Option (List ℕ)) (pending : List ℕ) : Type 0 where
  pub stops : List Stop
  pub are_stops : AreStops code graph count stops
  pub told : HeldText start held pending (stop_lines code stops)

-- one more number of a list
one_more : (f : Stop → ℕ) (stops : List Stop) (stop : Stop) (xs : List ℕ) (k : ℕ) → k < length xs → map f stops ≡ take k xs → f stop ≡ get_or xs k 0 →
    map f (stops ++ stop ∷ []) ≡ take (k + 1) xs
one_more f stops stop xs k lt before is =
    map-append f stops (stop ∷ [])
    ∙ (ap (λ (ys : List ℕ). ys ++ f stop ∷ []) before
    ∙ (ap (λ (n : ℕ). take k xs ++ n ∷ []) is
    ∙ (sym (take-suc xs k 0 lt) ∙ ap (λ (n : ℕ). take n xs) (sym (add-one k)))))

-- a reached offset and its leader, with what is read there
abbrev stop_of : ℕ → ℕ → Reading → Stop
stop_of start leader reading = record { start = start; leader = leader; reading = reading }

module _ (f : HeldFacts) where
  -- no line yet
  pub progress-start : (code : CodeBytes) (graph : Graph) (start : Option (List ℕ)) (pending : List ℕ) → pending ≡ [] →
      Progress code graph 0 start start pending
  progress-start code graph start pending empty = record {
    stops = [];
    are_stops = record { starts = refl; leaders = refl; reads = All-nil (λ (s : Stop). IsReadIn code s.start s.reading) };
    told = f.held-start start pending empty;
  }

  -- one more line
  pub progress-step : (bits : Bits) (base : ℕ) (bytes : List ℕ) (graph : Graph) (k : ℕ) (start held held' : Option (List ℕ)) (before after : List ℕ) →
      IsFlowGraph (code_bytes bits base bytes) graph → k < length graph.starts → Progress (code_bytes bits base bytes) graph k start held before →
      Moves held held' before after
      (flow_line bits base (get_or graph.starts k 0) (get_or graph.leaders k 0) (flow_word (told_at graph.flows k))) →
      Progress (code_bytes bits base bytes) graph (k + 1) start held' after
  progress-step bits base bytes graph k start held held' before after is lt p w =
      let code = code_bytes bits base bytes in
      let len = is.len in
      let t = is.told k lt in
      let stop = stop_of (get_or graph.starts k 0) (get_or graph.leaders k 0) t.reading in
      let moves : Moves held held' before after (stop_line code stop) =
      subst (λ told. Moves held held' before after (flow_line bits base (get_or graph.starts k 0) (get_or graph.leaders k 0) (flow_word told))) t.is w in
      let IsRead : Stop → Type 0 = λ (s : Stop). IsReadIn code s.start s.reading in
      let more : stop_lines code p.stops ++ stop_line code stop ≡ stop_lines code (p.stops ++ stop ∷ []) = flat_map_more (stop_line code) [] p.stops stop in
      record {
        stops = p.stops ++ stop ∷ [];
        are_stops = record {
          starts = one_more (λ (s : Stop). s.start) p.stops stop graph.starts k lt p.are_stops.starts refl;
          leaders = one_more (λ (s : Stop). s.leader) p.stops stop graph.leaders k (omega arith) p.are_stops.leaders refl;
          reads = All-append IsRead p.stops (stop ∷ []) p.are_stops.reads (All-cons IsRead stop [] t.reads (All-nil IsRead));
        };
        told = subst (λ (xs : List ℕ). HeldText start held' after xs) more (f.held-step start held held' before after (stop_lines code p.stops) (stop_line code stop) p.told moves);
      }

  -- all lines
  pub progress-end : (bits : Bits) (base : ℕ) (bytes : List ℕ) (graph : Graph) (count : ℕ) (start held held' : Option (List ℕ)) (pending : List ℕ) →
      IsFlowGraph (code_bytes bits base bytes) graph → count ≡ length graph.starts → Progress (code_bytes bits base bytes) graph count start held pending →
      held' ≡ with_back held pending → WritesFlow bits base bytes start held'
  progress-end bits base bytes graph count start held held' pending is all p whole =
      let code = code_bytes bits base bytes in
      record {
        graph = graph;
        is_graph = is;
        stops = p.stops;
        are_stops = subst (λ (n : ℕ). AreStops code graph n p.stops) all p.are_stops;
        written = f.held-end start held held' pending (stop_lines code p.stops) p.told whole;
      }

  -- a failure while lines are held back
  pub progress-failed : (bits : Bits) (base : ℕ) (bytes : List ℕ) (graph : Graph) (count : ℕ) (start held held' : Option (List ℕ)) (pending : List ℕ) →
      IsFlowGraph (code_bytes bits base bytes) graph → Progress (code_bytes bits base bytes) graph count start held pending →
      HoldsFront held held' pending → WritesFlowFront bits base bytes start held'
  progress-failed bits base bytes graph count start held held' pending is p front = record {
    graph = graph;
    is_graph = is;
    count = count;
    stops = p.stops;
    are_stops = p.are_stops;
    written = f.held-failed start held held' pending (stop_lines (code_bytes bits base bytes) p.stops) p.told front;
  }
