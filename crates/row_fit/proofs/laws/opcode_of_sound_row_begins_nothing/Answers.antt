use Rattle.row_fit.proofs.SoundLaws.{sound_opcode}
use Rattle.row_fit.proofs.laws.opcode_of_sound_row_begins_nothing.Goals as goal

pub returns : goal.returns
returns c = sound_opcode
