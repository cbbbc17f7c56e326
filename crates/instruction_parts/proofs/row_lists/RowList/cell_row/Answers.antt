use Rattle.std.proofs.Common.{◌≡◌, ◌+◌, arith, sym, ◌∙◌, Some, slice_get}
use Rattle.std.proofs.lemmas.Option.{slice_get_within}
use Rattle.instruction_parts.specs.declared.row_types.Row.{Row}
use Rattle.instruction_parts.specs.Cells.{cell_of}
use Rattle.instruction_parts.specs.Flat.{rows_of}
use Rattle.instruction_parts.proofs.Spans.{span-read_is}
use Rattle.instruction_parts.proofs.row_lists.RowList.cell_row.Goals as goal

pub span_in-first-requires : goal.span_in-first-requires
span_in-first-requires c = let t = c.requires.spans c.args.map c.args.opcode (omega arith) in (t.0, t.1)

-- the row in the list and in the cell
found : (c : goal.After-span_in-first) → (row : Row) × (slice_get (rows_of c.args.self.now.rows.now) (c.span_in-first.result.first + c.args.i) ≡ Some row)
    × (slice_get (cell_of (rows_of c.args.self.now.rows.now) c.args.self.now.kind c.args.map c.args.opcode) c.args.i ≡ Some row)
found c =
    let list = c.args.self.now in
    let s = span-read_is list.kind c.args.map c.args.opcode list.spans.now (rows_of list.rows.now) c.span_in-first.result c.requires.spans (omega arith) c.span_in-first.ensures in
    s.1 c.args.i (rw s.0 at c.requires.within)

pub row_at-requires : goal.row_at-requires
row_at-requires c = let t = found c in slice_get_within (rows_of c.args.self.now.rows.now) (c.span_in-first.result.first + c.args.i) t.0 t.1

pub returns : goal.returns
returns c = let t = found c.before in t.2 ∙ sym t.1 ∙ c.row_at.ensures
