use Rattle.std.proofs.Common.{◌≡◌, drop}
use Rattle.moving_run.specs.Ends.{first_pass}
use Rattle.moving_run.proofs.code.first_pass.Given as goal

abbrev pub invariant-loop-word : goal.invariant-loop-word
invariant-loop-word l = first_pass l.bits (drop l.word-index l.words) l.rest ≡ first_pass l.bits l.words l.input
