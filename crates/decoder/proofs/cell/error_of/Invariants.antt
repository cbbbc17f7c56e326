use Rattle.std.proofs.Common.{◌+◌, ◌≤◌}
use Rattle.opcode_rows.specs.Table.{table}
use Rattle.decoder.specs.Cells.{Scanned}
use Rattle.decoder.proofs.cell.error_of.Given as goal

abbrev pub invariant-loop-n : goal.invariant-loop-n
invariant-loop-n g l = record {
  rows : Scanned table l.bits l.bytes l.cell.first (l.cell.first + l.n) l.goes_on;
  count : l.steps ≤ l.initial.steps + l.n;
}
