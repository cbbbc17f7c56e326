use Rattle.opcode_rows.proofs.CellRuns.{run-cell}
use Rattle.opcode_rows.proofs.laws.cells_are_runs.Goals as goal

pub returns : goal.returns
returns c = run-cell
