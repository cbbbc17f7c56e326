use Rattle.std.proofs.Common.{ℕ, List, [], ◌∷◌, ◌++◌, slice_index_or, ap, ◌∙◌, arith}
use Rattle.text_parts.proofs.ByteDigits.{one_digit-length, two_digits-length, one_digit-appended, two_digits-appended}
use Rattle.text_parts.proofs.numbers.append_byte.Goals as goal

pub push-requires : goal.push-requires
push-requires g c = (
  omega arith,
  omega (arith, c.requires, two_digits-length c.args.n c.if-n-ge16.true (omega arith)),
)

pub push-requires-then-n-ge16 : goal.push-requires-then-n-ge16
push-requires-then-n-ge16 g c = (
  omega arith,
  omega (arith, c.requires, c.push.ensures.len, two_digits-length c.args.n c.if-n-ge16.true (omega arith)),
)

pub push-requires-else-n-ge16 : goal.push-requires-else-n-ge16
push-requires-else-n-ge16 g c = (
  omega arith,
  omega (arith, c.requires, one_digit-length c.args.n (omega arith)),
)

pub returns-then-n-ge16 : goal.returns-then-n-ge16
returns-then-n-ge16 g c =
    c.push-then-n-ge16.ensures.items
    ∙ ap (λ (xs : List ℕ). xs ++ slice_index_or c.digit_pair.result 1 0 ∷ []) c.push.ensures.items
    ∙ two_digits-appended c.args.out.now.items c.digit_pair.result c.args.n c.digit_pair.ensures c.if-n-ge16.true (omega arith)

pub returns-else-n-ge16 : goal.returns-else-n-ge16
returns-else-n-ge16 g c =
    c.push-else-n-ge16.ensures.items
    ∙ one_digit-appended c.args.out.now.items c.digit_pair.result c.args.n c.digit_pair.ensures (omega arith)
