use Rattle.opcode_rows.proofs.Kept.{kept-row}
use Rattle.opcode_rows.proofs.laws.opcodes_are_kept_in_each_mode.Goals as goal

pub returns : goal.returns
returns c = kept-row
