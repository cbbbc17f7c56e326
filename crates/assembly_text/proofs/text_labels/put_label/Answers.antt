use Rattle.std.proofs.Common.{arith}
use Rattle.assembly_text.proofs.Labelled.{shown_within}
use Rattle.assembly_text.proofs.text_labels.put_label.Goals as goal

pub overflow_add-offset : goal.overflow_add-offset
overflow_add-offset c =
    let within = shown_within c.args.line.now in
    grind (arith, c.shown_column.ensures, c.requires)
