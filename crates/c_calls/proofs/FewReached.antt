-- No more offsets are reached than there are bytes.
use Rattle.std.proofs.Common.{◌≡◌, ℕ, zero, suc, ◌+◌, ◌<◌, ◌≤◌, List, length, Option, Some, None, refl, subst, add-one, arith}
use Rattle.std.specs.Prelude.{slice_index}
use Rattle.std.specs.List.Sorted.{IsStrictlyIncreasing}
use Rattle.x86_values.specs.declared.Bits.{Bits}
use Rattle.flow_graph.specs.declared.exits.Follow.{Follow}
use Rattle.flow_graph.specs.Control.{CodeBytes, code_bytes, code_bytes_with}
use Rattle.flow_graph.specs.Reached.{Reaches, start, step}
use Rattle.flow_graph.specs.ReachedFrom.{ReachesFrom, start as start_from, step as step_from}
use Rattle.flow_graph.specs.Graphs.{Graph}
use Rattle.c_calls.specs.Flow.{IsGraphIn}
use Rattle.c_calls.specs.FlowFrom.{IsGraphFromIn}

reached_inside : (code : CodeBytes) (q : ℕ) → Reaches code q → q < length code.bytes
reached_inside code _ (start h) = h
reached_inside code _ (step p q h s) = s.inside

reached_from_inside : (code : CodeBytes) (entries : List ℕ) (q : ℕ) → ReachesFrom code entries q → q < length code.bytes
reached_from_inside code entries _ (start_from q has h) = h
reached_from_inside code entries _ (step_from p q h s) = s.inside

-- a number of an ascending list is not less than its place
at_least : (xs : List ℕ) → IsStrictlyIncreasing xs → (k : ℕ) → k < length xs → k ≤ slice_index xs k
at_least xs up zero l = omega arith
at_least xs up (suc k) l =
    let before = at_least xs up k (omega arith) in
    let next : slice_index xs k < slice_index xs (k + 1) = up k (omega arith) in
    let P : ℕ → Type 0 = λ j. j ≤ slice_index xs j in
    let here : k + 1 ≤ slice_index xs (k + 1) = omega (arith, before, next) in
    subst P (add-one k) here

-- an ascending list of numbers below a bound has no more of them
few : (xs : List ℕ) (most : ℕ) → IsStrictlyIncreasing xs → ((k : ℕ) → k < length xs → slice_index xs k < most) → (n : ℕ) → length xs ≡ n → n ≤ most
few xs most up below zero e = omega arith
few xs most up below (suc n) e =
    let far = at_least xs up n (omega (arith, e)) in
    let inside = below n (omega (arith, e)) in
    omega (arith, far, inside)

-- a graph has no more starts than the code has bytes
pub few_reached : (mode : Option Bits) (base : ℕ) (bytes : List ℕ) (graph : Graph) → IsGraphIn mode base bytes graph → length graph.starts ≤ length bytes
few_reached None base bytes graph h = absurd h
few_reached (Some bits) base bytes graph h =
    few graph.starts (length bytes) h.ascending
    (λ k l. reached_inside (code_bytes bits base bytes) (slice_index graph.starts k) (h.reached k 0 l)) (length graph.starts) refl

-- it has a leader for each start
pub as_many_leaders : (mode : Option Bits) (base : ℕ) (bytes : List ℕ) (graph : Graph) → IsGraphIn mode base bytes graph → length graph.leaders ≡ length graph.starts
as_many_leaders None base bytes graph h = absurd h
as_many_leaders (Some bits) base bytes graph h = h.len

-- a graph from several entries has no more starts than the code has bytes
pub few_reached_from : (follow : Follow) (mode : Option Bits) (base : ℕ) (bytes entries : List ℕ) (graph : Graph) → IsGraphFromIn follow mode base bytes entries graph →
    length graph.starts ≤ length bytes
few_reached_from follow None base bytes entries graph h = absurd h
few_reached_from follow (Some bits) base bytes entries graph h =
    few graph.starts (length bytes) h.ascending
    (λ k l. reached_from_inside (code_bytes_with follow bits base bytes) entries (slice_index graph.starts k) (h.reached k 0 l)) (length graph.starts) refl

-- it has a leader for each start
pub leaders_from : (follow : Follow) (mode : Option Bits) (base : ℕ) (bytes entries : List ℕ) (graph : Graph) → IsGraphFromIn follow mode base bytes entries graph →
    length graph.leaders ≡ length graph.starts
leaders_from follow None base bytes entries graph h = absurd h
leaders_from follow (Some bits) base bytes entries graph h = h.len

-- and a flow
pub flows_from : (follow : Follow) (mode : Option Bits) (base : ℕ) (bytes entries : List ℕ) (graph : Graph) → IsGraphFromIn follow mode base bytes entries graph →
    length graph.flows ≡ length graph.starts
flows_from follow None base bytes entries graph h = absurd h
flows_from follow (Some bits) base bytes entries graph h = h.flows_len
