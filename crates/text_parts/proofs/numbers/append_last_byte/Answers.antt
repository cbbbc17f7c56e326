use Rattle.std.proofs.Common.{ℕ, List, [], ◌∷◌, ◌++◌, slice_index_or, ap, ◌∙◌}
use Rattle.text_parts.proofs.ByteDigits.{pair-appended}
use Rattle.text_parts.proofs.numbers.append_last_byte.Goals as goal

pub returns : goal.returns
returns g c =
    c.push-2.ensures.items
    ∙ ap (λ (xs : List ℕ). xs ++ slice_index_or c.digit_pair.result 1 0 ∷ []) c.push.ensures.items
    ∙ pair-appended c.args.out.now.items c.digit_pair.result c.byte_at.result c.args.n c.digit_pair.ensures c.byte_at.ensures
