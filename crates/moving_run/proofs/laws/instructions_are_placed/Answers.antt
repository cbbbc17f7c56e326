use Rattle.moving_run.proofs.Blocks as blocks
use Rattle.moving_run.proofs.Wholes as wholes
use Rattle.moving_run.proofs.Moved as moved
use Rattle.moving_run.proofs.laws.instructions_are_placed.Goals as goal

pub returns : goal.returns
returns c = record {
  placed_length = blocks.placed_length;
  are_placed = wholes.are_placed;
  ends_are = wholes.ends_are;
  forms_length = moved.forms_length;
}
