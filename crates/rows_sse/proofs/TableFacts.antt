-- What is computed of the table.
use Rattle.std.proofs.Common.{◌≡◌, true, refl, length}
use Rattle.instruction_parts.specs.RowFields.Candidates.{rows_with_codes, of_number, at_opcode, below, is_run}
use Rattle.instruction_parts.specs.declared.row_types.RowKind.TheVariants.{Legacy}
use Rattle.instruction_parts.specs.Cells.{cell_span}
use Rattle.instruction_parts.specs.Runs.{run_at, line_runs, spans_fit}
use Rattle.rows_sse.specs.declared.generated_table.TheConstants.{ROWS}
use Rattle.rows_sse.specs.Table.{flat_rows, table, spans}

-- there are ROWS rows
pub length-table : length table ≡ ROWS
unfolding table flat_rows
length-table = refl

-- the spans say where the rows of each cell lie
pub are_runs : spans_fit Legacy spans table ≡ true
unfolding rows_with_codes of_number at_opcode below is_run run_at line_runs spans_fit spans cell_span table flat_rows
are_runs = refl
