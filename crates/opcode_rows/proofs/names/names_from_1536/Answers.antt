use Rattle.std.proofs.Common.{refl}
use Rattle.opcode_rows.proofs.names.names_from_1536.Goals as goal

pub returns-clause-names : goal.returns-clause-names
returns-clause-names c = refl
