-- A row list that holds a table.
use Rattle.std.specs.Prelude.{◌≡◌, ℕ, List, length}
use Rattle.instruction_parts.specs.declared.row_types.Row.{Row}
use Rattle.instruction_parts.specs.declared.row_types.RowKind.{RowKind}
use Rattle.instruction_parts.specs.declared.row_lists.Span.{Span}
use Rattle.instruction_parts.specs.declared.row_lists.RowList.{RowList}
use Rattle.instruction_parts.specs.Flat.{rows_of}
use Rattle.instruction_parts.specs.Spans.{AreCellSpansOf}

-- the list holds a table of n rows of the kind k, and these lines of spans, which say where the rows of each cell lie
pub record IsListOf (k : RowKind) (table : List Row) (lines : List (List Span)) (n : ℕ) (list : RowList) : Type 0 where
  pub kind : list.kind ≡ k
  pub rows : rows_of list.rows.now ≡ table
  pub count : length table ≡ n
  pub spans : list.spans.now ≡ lines
  pub cells : AreCellSpansOf list.kind (rows_of list.rows.now) list.spans.now
