use Rattle.std.proofs.Common.{ℕ, List, ◌++◌, ap, sym, ◌∙◌, length, arith}
use Rattle.text_parts.proofs.ByteDigits.{sixteen_digits}
use Rattle.text_parts.proofs.numbers.append_eight_bytes.Goals as goal

pub append_last_bytes-requires : goal.append_last_bytes-requires
append_last_bytes-requires g c =
    omega (arith, c.requires.room, ap length (sixteen_digits c.args.n c.requires.some (omega arith)))

pub returns : goal.returns
returns g c =
    c.append_last_bytes.ensures
    ∙ ap (λ (xs : List ℕ). c.args.out.now.items ++ xs) (sym (sixteen_digits c.args.n c.requires.some (omega arith)))
