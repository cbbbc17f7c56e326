use Rattle.std.proofs.Common.{ℕ, ◌*◌, ◌/◌, List, ◌++◌, ap, ◌∙◌}
use Rattle.text_parts.specs.Numbers.{last_digits}
use Rattle.text_parts.proofs.Digits.{odd_digit, no_odd_digit}
use Rattle.text_parts.proofs.numbers.append_last_digits.Goals.{then-count-eq1, else-count-eq1}
use Rattle.text_parts.proofs.numbers.append_last_digits.Goals as goal

pub returns : goal.returns
returns g c =
    elim c.if-count-eq1.branch [
      | then-count-eq1 w ↦
          c.append_last_bytes.ensures
          ∙ ap (λ (xs : List ℕ). xs ++ last_digits (2 * (c.args.count / 2)) c.args.n) (ap (λ out. out.items) w.out-is ∙ w.push.ensures.items)
          ∙ odd_digit c.args.out.now.items _ _ c.args.count c.args.n w.hex_digit.ensures w.digit_at.ensures.value w.if-count-eq1.true
      | else-count-eq1 w ↦
          c.append_last_bytes.ensures
          ∙ ap (λ (xs : List ℕ). xs ++ last_digits (2 * (c.args.count / 2)) c.args.n) (ap (λ out. out.items) w.out-is)
          ∙ no_odd_digit c.args.out.now.items c.args.count c.args.n w.if-count-eq1.false
    ]
