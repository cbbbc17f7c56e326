use Rattle.opcode_rows.proofs.Order.{opcodes-ordered, spots-ordered}
use Rattle.opcode_rows.proofs.laws.codes_ascend.Goals as goal

pub returns : goal.returns
returns c = record {
  by_opcode = opcodes-ordered;
  in_part = spots-ordered;
}
