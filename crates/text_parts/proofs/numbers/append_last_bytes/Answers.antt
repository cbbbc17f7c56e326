use Rattle.std.proofs.Common.{ℕ, ◌-◌, ◌*◌, List, [], ◌∷◌, ◌++◌, slice_index_or, ap, ◌∙◌, arith}
use Rattle.text_parts.specs.Numbers.{last_digits}
use Rattle.text_parts.proofs.Digits.{high_of_pair, low_of_pair, room_for_byte, one_more_byte, no_more_bytes}
use Rattle.text_parts.proofs.numbers.append_last_bytes.Goals as goal

pub push-requires : goal.push-requires
push-requires g c = (
  omega arith,
  omega (arith, room_for_byte c.loop-left.out.items c.args.out.now.items c.loop-left.left c.args.count c.args.n g.row.N c.loop-left.invariant.whole c.requires.room c.loop-left-test.true),
)

pub push-requires-in-loop-left : goal.push-requires-in-loop-left
push-requires-in-loop-left g c = (
  omega arith,
  omega (arith, c.push.ensures.len, room_for_byte c.loop-left.out.items c.args.out.now.items c.loop-left.left c.args.count c.args.n g.row.N c.loop-left.invariant.whole c.requires.room c.loop-left-test.true),
)

pub loop-left-preserved : goal.loop-left-preserved
loop-left-preserved g c =
    let high = high_of_pair c.digit_pair.result c.byte_at.result c.args.n (c.loop-left.left - 1) c.digit_pair.ensures c.byte_at.ensures in
    let low = low_of_pair c.digit_pair.result c.byte_at.result c.args.n (c.loop-left.left - 1) c.digit_pair.ensures c.byte_at.ensures in
    record {
      few = omega arith;
      whole =
          ap (λ (xs : List ℕ). xs ++ last_digits (2 * (c.loop-left.left - 1)) c.args.n)
          (c.push-in-loop-left.ensures.items ∙ ap (λ (xs : List ℕ). xs ++ slice_index_or c.digit_pair.result 1 0 ∷ []) c.push.ensures.items)
          ∙ one_more_byte c.loop-left.out.items c.args.out.now.items _ _ c.loop-left.left c.args.count c.args.n high low c.loop-left-test.true c.loop-left.invariant.whole;
    }

pub returns : goal.returns
returns g c =
    no_more_bytes c.loop-left.out.items c.args.out.now.items c.loop-left.left c.args.count c.args.n c.loop-left-test.false c.loop-left.invariant.whole
