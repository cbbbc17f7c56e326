use Rattle.opcode_rows.proofs.Words.{name-is_name}
use Rattle.opcode_rows.proofs.laws.names_are_words.Goals as goal

pub returns : goal.returns
returns c = name-is_name
