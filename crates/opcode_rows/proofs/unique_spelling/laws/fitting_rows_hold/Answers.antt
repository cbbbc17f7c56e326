use Rattle.opcode_rows.proofs.UniqueSpelling.Unique.{row-holds}
use Rattle.opcode_rows.proofs.unique_spelling.laws.fitting_rows_hold.Goals as goal

pub returns : goal.returns
returns c = row-holds
