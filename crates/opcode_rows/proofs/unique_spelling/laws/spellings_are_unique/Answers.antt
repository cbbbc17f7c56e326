use Rattle.opcode_rows.proofs.UniqueSpelling.Unique.{unique}
use Rattle.opcode_rows.proofs.unique_spelling.laws.spellings_are_unique.Goals as goal

pub returns : goal.returns
returns c = unique
