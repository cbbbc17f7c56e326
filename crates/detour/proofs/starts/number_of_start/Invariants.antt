use Rattle.std.proofs.Common.{◌≡◌, ◌<◌, ℕ, false}
use Rattle.detour.specs.Starts.{stands_at}
use Rattle.detour.proofs.starts.number_of_start.Given as goal

abbrev pub invariant-starts : goal.invariant-starts
invariant-starts l = (j : ℕ) → j < l.k → stands_at l.starts l.start j ≡ false
