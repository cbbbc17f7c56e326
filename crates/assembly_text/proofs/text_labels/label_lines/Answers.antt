use Rattle.std.proofs.Common.{◌≡◌, ◌≤◌, ◌+◌, ◌++◌, List, length, ap, sym, ◌∙◌, arith}
use Rattle.std.proofs.lemmas.Bool.Decides.{nat_tests}
use Rattle.assembly_text.specs.declared.text_labels.LabelLine.{LabelLine}
use Rattle.assembly_text.specs.Lines.{lines_in}
use Rattle.assembly_text.specs.TextLabels.{labels_at}
use Rattle.assembly_text.proofs.Labelled.{total, total_within, labels_end, labels_step}
use Rattle.assembly_text.proofs.text_labels.label_lines.Goals as goal

pub lines-init : goal.lines-init
lines-init c = let few = total_within c.args.text.now in record {
  same = ap (λ (xs : List LabelLine). xs ++ labels_at 1 0 (lines_in c.args.text.now)) (sym c.new-labels.ensures.items);
  few = omega arith;
  within = omega (arith, few);
}

pub overflow_add-offset-in-lines : goal.overflow_add-offset-in-lines
overflow_add-offset-in-lines c =
    let sum : total (lines_in c.lines.rest.now) ≡ length c.first_line.result.0.now + 1 + total (lines_in c.first_line.result.1.now) =
    ap total c.first_line.ensures.lines in
    grind (arith, c.lines.invariant.within)

pub lines-preserved : goal.lines-preserved
lines-preserved c =
    let sum : total (lines_in c.lines.rest.now) ≡ length c.first_line.result.0.now + 1 + total (lines_in c.first_line.result.1.now) =
    ap total c.first_line.ensures.lines in
    record {
      same = c.lines.invariant.same
          ∙ (labels_step c.lines.rest.now c.first_line.result.0.now c.first_line.result.1.now c.lines.number c.lines.offset c.lines.labels.items c.first_line.ensures.lines
          ∙ ap (λ (xs : List LabelLine). xs ++ labels_at (c.lines.number + 1) (c.lines.offset + (length c.first_line.result.0.now + 1)) (lines_in c.first_line.result.1.now))
          (sym c.in_ok-put_label.ensures));
      few = omega (arith, c.lines.invariant.few, c.first_line.ensures.less);
      within = omega (arith, c.lines.invariant.within, sum);
    }

pub returns : goal.returns
returns c =
    let none : length c.lines.rest.now ≤ 0 = grind (arith, nat_tests, c.is_empty.ensures, c.lines-test.false) in
    sym (c.lines.invariant.same ∙ labels_end c.lines.rest.now c.lines.number c.lines.offset c.lines.labels.items none)
