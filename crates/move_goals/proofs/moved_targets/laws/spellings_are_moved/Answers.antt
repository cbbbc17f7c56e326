use Rattle.move_goals.proofs.MovedTargets.Aims as aims
use Rattle.move_goals.proofs.MovedTargets.Below as targets
use Rattle.move_goals.proofs.MovedTargets.Elsewhere as elsewhere
use Rattle.move_goals.proofs.MovedTargets.Lengths as lengths
use Rattle.move_goals.proofs.moved_targets.laws.spellings_are_moved.Goals as goal

pub returns : goal.returns
returns c = record {
  plain_length-row = lengths.plain_length-row;
  some_byte = lengths.some_byte;
  encoding-length = lengths.encoding-length c.spelled_meets_conditions.ensures;
  with_target-length = lengths.with_target-length;
  untargeted-with_target = aims.untargeted-with_target;
  spelled-length = lengths.spelled-length c.spelled_meets_conditions.ensures;
  target-below = targets.target-below c.spelled_meets_conditions.ensures;
  encoded-elsewhere = elsewhere.encoded-elsewhere c.encodings_are_plain.ensures c.spelled_meets_conditions.ensures;
}
