use Rattle.opcode_rows.proofs.Versions.{rows-kept, names-kept}
use Rattle.opcode_rows.proofs.laws.version1_is_kept.Goals as goal

pub returns : goal.returns
returns c = record {
  rows = rows-kept;
  names = names-kept;
}
