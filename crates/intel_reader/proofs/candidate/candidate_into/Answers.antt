use Rattle.std.proofs.Common.{refl}
use Rattle.intel_reader.specs.Candidate.{candidate, operands_from}
use Rattle.intel_reader.proofs.candidate.candidate_into.Goals as goal

pub returns : goal.returns
unfolding candidate operands_from
returns c = rw (c.segment_from-out.ensures, c.operands_into.ensures, c.unwrap_or-size.ensures) refl
