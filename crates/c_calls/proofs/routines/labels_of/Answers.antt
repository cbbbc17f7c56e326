use Rattle.std.proofs.Common.{◌≡◌, ℕ, ◌<◌, ◌∷◌, ◌++◌, [], List, length, ap, sym, ◌∙◌, arith}
use Rattle.std.specs.Prelude.{slice_index_or}
use Rattle.std.proofs.lemmas.List.{get_or_default}
use Rattle.assembly_text.specs.declared.text_labels.LabelLine.{LabelLine}
use Rattle.c_calls.specs.declared.flat.FlatLabel.{FlatLabel}
use Rattle.c_calls.specs.Routines.{no_label, first_labels}
use Rattle.c_calls.proofs.RoutineLabels.{labels-none, labels-more}
use Rattle.c_calls.proofs.routines.labels_of.Goals as goal

pub each-init : goal.each-init
each-init c = c.in_ok-labels.ensures.items ∙ sym (labels-none c.args.made.now c.in_ok-lines.lines.items)

pub each-preserved : goal.each-preserved
each-preserved c =
    let inside : c.each.k < length c.in_ok-lines.lines.items = grind (arith, c.each-test.true, c.len-k-end.ensures) in
    let line : c.index.result.now ≡ slice_index_or c.in_ok-lines.lines.items c.each.k no_label =
    c.index.ensures ∙ get_or_default c.in_ok-lines.lines.items c.each.k c.index.result.now no_label inside in
    c.in_ok-push.ensures.items
    ∙ (ap (λ (xs : List FlatLabel). xs ++ c.flat_label.result ∷ []) c.each.invariant
    ∙ sym (labels-more c.args.made.now c.in_ok-lines.lines.items c.each.k c.flat_label.result c.address_at.result c.index.result.now c.flat_label.ensures c.address_at.ensures line))

pub returns : goal.returns
returns c =
    let all : c.each.k ≡ length c.in_ok-lines.lines.items = grind (arith, c.each-test.false, c.each.auto.k-end, c.len-k-end.ensures) in
    c.each.invariant
    ∙ (ap (λ (k : ℕ). first_labels c.args.made.now c.in_ok-lines.lines.items k) all
    ∙ ap (λ (ls : List LabelLine). first_labels c.args.made.now ls (length ls)) c.in_ok-lines.ensures)
