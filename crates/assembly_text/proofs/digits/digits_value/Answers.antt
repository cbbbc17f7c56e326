use Rattle.std.proofs.Common.{sym, ◌∙◌, ◌≡◌, None, get_or}
use Rattle.text_parts.specs.declared.digit_values.LetterCase.TheVariants.{Lower}
use Rattle.text_parts.specs.DigitValues.{digit_value}
use Rattle.assembly_text.specs.Digits.{with_digit}
use Rattle.assembly_text.proofs.Passing.{bad_digit}
use Rattle.assembly_text.proofs.digits.digits_value.Goals as goal

pub returns-in-None : goal.returns-in-None
returns-in-None c =
    let text = c.args.digits.now in
    let none : with_digit c.args.radix c.digits.value (digit_value Lower (get_or text c.digits.k 0)) ≡ None =
    rw (← c.digit_value.ensures.value) (sym c.in-None.ensures) in
    sym (c.digits.invariant ∙ bad_digit c.args.radix c.digits.value c.digits.k text c.digits-test.true none)
