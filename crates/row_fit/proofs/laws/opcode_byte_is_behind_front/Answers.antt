use Rattle.row_fit.proofs.FrontGrows.{known-used}
use Rattle.row_fit.proofs.laws.opcode_byte_is_behind_front.Goals as goal

pub returns : goal.returns
returns c = known-used
