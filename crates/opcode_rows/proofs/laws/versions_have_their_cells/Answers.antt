use Rattle.opcode_rows.proofs.Versions.{cells-parted}
use Rattle.opcode_rows.proofs.laws.versions_have_their_cells.Goals as goal

pub returns : goal.returns
returns c = cells-parted
