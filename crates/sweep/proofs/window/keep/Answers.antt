use Rattle.std.proofs.Common.{◌≡◌, ℕ, ◌+◌, ◌-◌, take, drop, arith, sym, ap, ◌∙◌}
use Rattle.std.proofs.lemmas.List.{drop-take, length-drop}
use Rattle.std.proofs.lemmas.List.Edits.{take-paste}
use Rattle.std.specs.List.{copy_within}
use Rattle.sweep.proofs.window.keep.Goals as goal

pub returns-clause-kept : goal.returns-clause-kept
returns-clause-kept c =
    let window = c.args.window.now in
    let used = c.args.used in
    let n : ℕ = c.args.end - used in
    let pasted = take-paste window 0 (drop used window) n (omega arith) (omega (arith, length-drop used window, c.requires.used, c.requires.end)) in
    let here : n ≡ 0 + n = omega arith in
    let there : used + n ≡ c.args.end = omega (arith, c.requires.used) in
    ap (take n) c.copy_within.ensures.after
    ∙ (ap (λ m. take m (copy_within window used c.args.end 0)) here
    ∙ (pasted
    ∙ (sym (drop-take used n window)
    ∙ ap (λ m. drop used (take m window)) there)))
