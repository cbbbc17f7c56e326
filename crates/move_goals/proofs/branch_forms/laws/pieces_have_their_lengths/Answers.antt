use Rattle.move_goals.proofs.BranchForms.Lengths as lengths
use Rattle.move_goals.proofs.BranchForms.Pieces as pieces
use Rattle.move_goals.proofs.branch_forms.laws.pieces_have_their_lengths.Goals as goal

pub returns : goal.returns
returns c = record {
  short_jump-length = pieces.short_jump-length;
  short_condition-length = pieces.short_condition-length;
  short_count-length = pieces.short_count-length;
  near_jump-length = pieces.near_jump-length;
  near_call-length = pieces.near_call-length;
  near_condition-length = pieces.near_condition-length;
  slot_call-length = pieces.slot_call-length;
  slot_jump-length = pieces.slot_jump-length;
  branch_to-length = lengths.branch_to-length c.laws_below.ensures;
  short-length = lengths.short-length c.laws_below.ensures;
  skip-length = lengths.skip-length c.laws_below.ensures;
  opposite_condition-small = pieces.opposite_condition-small;
}
