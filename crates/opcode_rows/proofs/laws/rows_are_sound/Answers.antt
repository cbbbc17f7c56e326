use Rattle.opcode_rows.proofs.Sound.{sound-row}
use Rattle.opcode_rows.proofs.laws.rows_are_sound.Goals as goal

pub returns : goal.returns
returns c = sound-row
