use Rattle.c_calls.proofs.ShortJumps.{jumps-short}
use Rattle.c_calls.proofs.laws.jumps_are_short.Goals as goal

pub returns : goal.returns
returns c = jumps-short (record {
  codes = c.codes_have_their_rows.ensures;
  pieces = c.pieces_have_their_lengths.ensures;
  spelled = c.spelled_meets_conditions.ensures;
})
