use Rattle.opcode_rows.proofs.Writable.{writable-row}
use Rattle.opcode_rows.proofs.laws.rows_are_writable.Goals as goal

pub returns : goal.returns
returns c = writable-row
