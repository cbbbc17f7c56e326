use Rattle.std.proofs.Common.{◌≡◌, ◌<◌, ℕ, get_or}
use Rattle.flow_graph.proofs.hook_sight.passages.is_among.Given as goal

abbrev pub invariant-places : goal.invariant-places
invariant-places l = (j : ℕ) → j < l.k → get_or l.offsets j 0 ≡ l.q → ⊥
