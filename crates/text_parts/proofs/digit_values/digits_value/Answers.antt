use Rattle.std.proofs.Common.{◌<◌, ◌+◌, ◌*◌, ◌^◌, ◌∙◌, sym, rules, arith, ap}
use Rattle.std.proofs.Math.ListN.{drop_of_length-le}
use Rattle.text_parts.specs.DigitValues.{digits_from}
use Rattle.text_parts.proofs.DigitValues.{digits_stop, digits_go_on, one_more_digit, digit_fits}
use Rattle.text_parts.proofs.digit_values.digits_value.Goals as goal

pub returns-in-None : goal.returns-in-None
returns-in-None c =
    sym (c.loop-c.invariant.rest ∙ digits_stop c.args.letters c.loop-c.value c.args.digits.now c.loop-c.c-index c.loop-c-test.true (sym c.in-None.ensures.value))

pub overflow_mul-value : goal.overflow_mul-value
overflow_mul-value c =
    let below = digit_fits c.loop-c.value c.in-Some.d c.loop-c.c-index _ c.loop-c.invariant.small c.in-Some.ensures.small c.loop-c-test.true c.requires in
    let less : 16 * c.loop-c.value < 2 ^ 64 = omega arith in
    search (rules, less)

pub overflow_add-value : goal.overflow_add-value
overflow_add-value c =
    let below = digit_fits c.loop-c.value c.in-Some.d c.loop-c.c-index _ c.loop-c.invariant.small c.in-Some.ensures.small c.loop-c-test.true c.requires in
    let less : 16 * c.loop-c.value + c.from.result < 2 ^ 64 = omega (arith, c.from.ensures) in
    search (rules, less)

pub loop-c-preserved : goal.loop-c-preserved
loop-c-preserved c = record {
  small = rw c.from.ensures (one_more_digit c.loop-c.value c.in-Some.d c.loop-c.c-index c.loop-c.invariant.small c.in-Some.ensures.small);
  rest = rw c.from.ensures (c.loop-c.invariant.rest
      ∙ digits_go_on c.args.letters c.loop-c.value c.args.digits.now c.loop-c.c-index c.in-Some.d c.loop-c-test.true (sym c.in-Some.ensures.value));
}

pub returns : goal.returns
unfolding digits_from
returns c =
    sym (c.loop-c.invariant.rest ∙ ap (digits_from c.args.letters c.loop-c.value) (drop_of_length-le c.args.digits.now c.loop-c-test.false))
