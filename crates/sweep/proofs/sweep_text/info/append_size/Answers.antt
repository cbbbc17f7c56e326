use Rattle.std.proofs.Common.{ℕ, ◌+◌, List, [], ◌∷◌, ◌++◌, sym, ap, ◌∙◌, append_assoc}
use Rattle.std.proofs.lemmas.Fmt.{decimal_digit}
use Rattle.sweep.proofs.sweep_text.info.append_size.Goals as goal

pub returns-then-size-lt10-clause-items : goal.returns-then-size-lt10-clause-items
returns-then-size-lt10-clause-items c =
    let out = c.args.out.now.items in
    let digit : List ℕ = (48 + c.args.size) ∷ [] in
    c.push.ensures.items
    ∙ (ap (λ (xs : List ℕ). xs ++ digit) c.append_few.ensures
    ∙ (append_assoc out (32 ∷ 109 ∷ []) digit
    ∙ ap (λ (xs : List ℕ). out ++ (32 ∷ 109 ∷ xs)) (sym (decimal_digit c.args.size c.if-size-lt10.true))))
