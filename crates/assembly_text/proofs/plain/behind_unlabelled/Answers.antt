use Rattle.std.proofs.Common.{ℕ, List, get_or, sym, subst, arith}
use Rattle.std.specs.Prelude.{◌==◌}
use Rattle.std.proofs.lemmas.Bool.{not-true}
use Rattle.assembly_text.specs.Lines.{is_no_colon}
use Rattle.assembly_text.specs.Labels.{HasLabelsOf}
use Rattle.assembly_text.proofs.Skipping.{skipped}
use Rattle.assembly_text.proofs.plain.behind_unlabelled.Goals as goal

pub returns-clause-labels : goal.returns-clause-labels
unfolding is_no_colon
returns-clause-labels c =
    let text = c.args.text.now in
    let start = c.line_start.result in
    subst (λ (x : List ℕ). HasLabelsOf text x) (sym c.split_at.ensures.back)
    (skipped start text (omega arith)
    (λ j lt. not-true (get_or text j 0 == 58) (c.colon_len.ensures.none j (omega arith))) c.line_start.ensures.behind)
