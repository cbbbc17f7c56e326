use Rattle.opcode_rows.proofs.Apart.{rows_apart}
use Rattle.opcode_rows.proofs.laws.rows_are_apart.Goals as goal

pub returns : goal.returns
returns c = rows_apart
