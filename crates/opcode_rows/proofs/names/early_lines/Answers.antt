use Rattle.std.proofs.Common.{refl}
use Rattle.opcode_rows.proofs.names.early_lines.Goals as goal

pub returns : goal.returns
returns c = refl
