use Rattle.opcode_rows.proofs.Formed.{code_in_table}
use Rattle.opcode_rows.proofs.laws.well_formed_codes_are_in_the_table.Goals as goal

pub returns : goal.returns
returns c = code_in_table
