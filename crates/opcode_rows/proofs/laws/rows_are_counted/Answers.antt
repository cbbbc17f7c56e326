use Rattle.opcode_rows.proofs.JoinFacts.{length-table}
use Rattle.opcode_rows.proofs.laws.rows_are_counted.Goals as goal

pub returns : goal.returns
returns c = length-table
