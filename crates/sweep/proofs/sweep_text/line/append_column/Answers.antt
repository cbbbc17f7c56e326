use Rattle.std.proofs.Common.{List, ℕ, ap, ◌++◌, ◌∙◌}
use Rattle.sweep.proofs.SweepText.Lengths.{column_is}
use Rattle.sweep.proofs.sweep_text.line.append_column.Goals as goal

pub returns-clause-items : goal.returns-clause-items
returns-clause-items c =
    c.append.ensures
    ∙ ap (λ (xs : List ℕ). c.args.out.now.items ++ xs) (column_is c.args.bytes.now _ c.in-Ok.ensures.written)
