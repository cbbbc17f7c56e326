use Rattle.std.proofs.Common.{◌≡◌, ◌≤◌, ◌+◌, ◌++◌, length}
use Rattle.assembly_text.specs.Lines.{lines_in}
use Rattle.assembly_text.specs.TextLabels.{labels_at}
use Rattle.assembly_text.proofs.Labelled.{total}
use Rattle.assembly_text.proofs.text_labels.label_lines.Given as goal

abbrev pub invariant-lines : goal.invariant-lines
invariant-lines l = record {
  same : labels_at 1 0 (lines_in l.text) ≡ l.labels.items ++ labels_at l.number l.offset (lines_in l.rest);
  few : l.number + length l.rest ≤ length l.text + 1;
  within : l.offset + total (lines_in l.rest) ≤ length l.text + 1;
}

abbrev pub decreases-lines : goal.decreases-lines
decreases-lines l = length l.rest
