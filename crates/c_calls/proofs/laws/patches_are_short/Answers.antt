use Rattle.c_calls.proofs.ShortPatches.{patches-short}
use Rattle.c_calls.proofs.laws.patches_are_short.Goals as goal

pub returns : goal.returns
returns c = patches-short (record {
  codes = c.codes_have_their_rows.ensures;
  pieces = c.pieces_have_their_lengths.ensures;
  spelled = c.spelled_meets_conditions.ensures;
})
