use Rattle.std.proofs.Common.{◌≡◌, ℕ, List, ◌+◌, drop, sym, ap, subst, ◌∙◌, None}
use Rattle.assembly_text.specs.Lines.{unpadded, label_of, body_of}
use Rattle.assembly_text.proofs.PlainLines.{plain_shown, plain_unlabelled, plain_body, plain_column}
use Rattle.assembly_text.proofs.line.plain_parts.Goals as goal

pub returns-clause-shown : goal.returns-clause-shown
returns-clause-shown c =
    let line = c.args.line.now in
    let behind = c.split_at.ensures.back ∙ ap (λ (n : ℕ). drop n line) c.blanks_len-blanks.ensures.value in
    c.unpadded-shown.ensures ∙ (ap (λ (x : List ℕ). unpadded x) behind ∙ plain_shown line c.requires)

pub returns-clause-label : goal.returns-clause-label
returns-clause-label c =
    subst (λ (x : List ℕ). label_of x ≡ None) (sym (returns-clause-shown c)) (plain_unlabelled c.args.line.now c.requires)

pub returns-clause-body : goal.returns-clause-body
returns-clause-body c =
    subst (λ (x : List ℕ). x ≡ body_of x) (sym (returns-clause-shown c)) (sym (plain_body c.args.line.now c.requires))

pub returns-clause-column : goal.returns-clause-column
returns-clause-column c = ap (λ (n : ℕ). n + 1) c.blanks_len-blanks.ensures.value ∙ plain_column c.args.line.now c.requires
