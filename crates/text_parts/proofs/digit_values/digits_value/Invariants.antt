use Rattle.std.proofs.Common.{◌≡◌, ◌<◌, ◌^◌, drop}
use Rattle.text_parts.specs.DigitValues.{digits_from}
use Rattle.text_parts.proofs.digit_values.digits_value.Given as goal

abbrev pub invariant-loop-c : goal.invariant-loop-c
invariant-loop-c l = record {
  small : l.value < 16 ^ l.c-index;
  rest : digits_from l.letters 0 l.digits ≡ digits_from l.letters l.value (drop l.c-index l.digits);
}
