use Rattle.std.proofs.Common.{◌≡◌, max, drop}
use Rattle.detour.specs.Lengths.{greatest_length}
use Rattle.detour.proofs.lengths.greatest_len.Given as goal

abbrev pub invariant-loop-choice : goal.invariant-loop-choice
invariant-loop-choice l = max l.greatest (greatest_length (drop l.choice-index l.choices)) ≡ greatest_length l.choices
