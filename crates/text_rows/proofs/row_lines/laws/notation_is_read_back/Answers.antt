use Rattle.std.proofs.Common.{sym, ◌∙◌}
use Rattle.row_notation.specs.Shape.{shape}
use Rattle.text_rows.proofs.RowLines.Shapes.{proper-row, notation-known}
use Rattle.text_rows.proofs.row_lines.laws.notation_is_read_back.Goals as goal

pub returns : goal.returns
returns c = λ row at.
    c.read_notation.ensures.only (shape row) (record {
      proper = proper-row c.args.code.0 row at;
      written = sym (notation-known c.args.code.0 row at) ∙ sym (c.as_slice.ensures.value ∙ c.notation_of.ensures);
    })
