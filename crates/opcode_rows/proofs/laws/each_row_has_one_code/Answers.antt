use Rattle.opcode_rows.proofs.Order.{one_code}
use Rattle.opcode_rows.proofs.laws.each_row_has_one_code.Goals as goal

pub returns : goal.returns
returns c = one_code
