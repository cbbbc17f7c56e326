-- A list that is made of a table's rows and of the spans of its cells holds the table.
use Rattle.std.proofs.Common.{◌≡◌, ℕ, List, length, ap, sym, subst, ◌∙◌}
use Rattle.instruction_parts.specs.declared.row_types.Row.{Row}
use Rattle.instruction_parts.specs.declared.row_types.RowKind.{RowKind}
use Rattle.instruction_parts.specs.declared.row_lists.FlatRow.{FlatRow}
use Rattle.instruction_parts.specs.declared.row_lists.Span.{Span}
use Rattle.instruction_parts.specs.declared.row_lists.RowList.{RowList}
use Rattle.instruction_parts.specs.Flat.{rows_of}
use Rattle.instruction_parts.specs.Spans.{AreCellSpansOf}
use Rattle.instruction_parts.specs.Lists.{IsListOf}

-- a list of these rows and spans holds the table that they make
pub list-of : (k : RowKind) (table : List Row) (flat : List FlatRow) (lines : List (List Span)) (n : ℕ) (list : RowList)
    → list.kind ≡ k → list.rows.now ≡ flat → list.spans.now ≡ lines
    → rows_of flat ≡ table → length table ≡ n → AreCellSpansOf k table lines → IsListOf k table lines n list
list-of k table flat lines n list kind rows spans is count cells =
    let whole : rows_of list.rows.now ≡ table = ap rows_of rows ∙ is in
    record {
      kind = kind;
      rows = whole;
      count = count;
      spans = spans;
      cells =
          subst (λ x. AreCellSpansOf x (rows_of list.rows.now) list.spans.now) (sym kind)
          (subst (λ x. AreCellSpansOf k x list.spans.now) (sym whole) (subst (AreCellSpansOf k table) (sym spans) cells));
    }
