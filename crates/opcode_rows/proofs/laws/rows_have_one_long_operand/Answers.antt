use Rattle.opcode_rows.proofs.Words.{one-long-row}
use Rattle.opcode_rows.proofs.laws.rows_have_one_long_operand.Goals as goal

pub returns : goal.returns
returns c = one-long-row
