use Rattle.std.proofs.Common.{refl}
use Rattle.instruction_parts.specs.declared.row_types.RowKind.TheVariants.{Legacy}
use Rattle.instruction_parts.proofs.Lists.{list-of}
use Rattle.rows_sse.specs.declared.generated_table.TheConstants.{ROWS}
use Rattle.rows_sse.specs.Table.{flat_rows, table, spans}
use Rattle.rows_sse.proofs.Spans.{are_spans}
use Rattle.rows_sse.proofs.TableFacts.{length-table}
use Rattle.rows_sse.proofs.list.Goals as goal

pub returns : goal.returns
unfolding table flat_rows spans
returns c =
    list-of Legacy table flat_rows spans ROWS c.new.result c.new.ensures.kind c.new.ensures.rows c.new.ensures.spans refl length-table are_spans
