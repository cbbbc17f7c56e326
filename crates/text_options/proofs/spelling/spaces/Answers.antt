use Rattle.std.proofs.Common.{◌≡◌, ℕ, ◌≤◌, replicate, ap, ◌∙◌, arith}
use Rattle.std.proofs.lemmas.List.{take-replicate}
use Rattle.text_options.proofs.spelling.spaces.Goals as goal

pub returns : goal.returns
returns c =
    let small : c.from.result ≤ 256 = omega arith in
    let same : c.from.result ≡ c.args.n = omega arith in
    take-replicate c.from.result 256 32 small ∙ ap (λ (n : ℕ). replicate n 32) same
