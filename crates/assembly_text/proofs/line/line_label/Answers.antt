use Rattle.std.proofs.Common.{sym, ap, refl, ◌∙◌}
use Rattle.assembly_text.specs.Lines.{has_label, shown}
use Rattle.assembly_text.proofs.Fronts.{no_label}
use Rattle.assembly_text.proofs.line.line_label.Goals as goal

pub returns-else-has_label : goal.returns-else-has_label
returns-else-has_label c =
    no_label (has_label (shown c.args.line.now)) c.args.line.now refl
    (ap has_label (sym c.unindented.ensures) ∙ (sym c.has_label.ensures ∙ c.if-has_label.false))
