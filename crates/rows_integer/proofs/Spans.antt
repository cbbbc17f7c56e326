-- The spans say where the rows of each cell lie.
use Rattle.instruction_parts.specs.declared.row_types.RowKind.TheVariants.{Legacy}
use Rattle.instruction_parts.specs.Spans.{AreCellSpansOf}
use Rattle.instruction_parts.proofs.Spans.{spans-of_fit}
use Rattle.rows_integer.specs.Table.{table, spans}
use Rattle.rows_integer.proofs.TableFacts.{are_runs}

-- the spans say where the rows of each cell lie
pub are_spans : AreCellSpansOf Legacy table spans
are_spans = spans-of_fit Legacy spans table are_runs
