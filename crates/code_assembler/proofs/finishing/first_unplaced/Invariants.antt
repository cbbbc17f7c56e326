use Rattle.std.proofs.Common.{◌≡◌, ◌<◌, ℕ, false, not}
use Rattle.code_assembler.specs.Routine.{is_aimed, aim_at}
use Rattle.code_assembler.proofs.finishing.first_unplaced.Given as goal

abbrev pub invariant-aims : goal.invariant-aims
invariant-aims l = (j : ℕ) → j < l.k → not (is_aimed l.labels l.count (aim_at l.aims j)) ≡ false
