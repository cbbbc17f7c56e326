use Rattle.opcode_rows.proofs.Sound.{sound-row}
use Rattle.text_rows.proofs.Long.{code_in_table, one_long}
use Rattle.text_rows.proofs.printed_row.Goals as goal

pub row_of-requires : goal.row_of-requires
row_of-requires c = code_in_table c.args.instr.now c.requires

pub returns-clause-sound : goal.returns-clause-sound
returns-clause-sound c = sound-row c.args.instr.now.code.0 _ c.row_of.ensures

pub returns-clause-operands : goal.returns-clause-operands
returns-clause-operands c = one_long c.args.instr.now c.requires
