use Rattle.std.proofs.Common.{◌≡◌, ℕ, ◌-◌, ◌/◌, false, drop, ap, sym, ◌∙◌, subst, arith}
use Rattle.std.proofs.Math.ListN.{drop_of_length-le, length-set}
use Rattle.std.specs.Fmt.{digits, digits_onto}
use Rattle.sweep.proofs.RunParts.HexDigits.{all-digits, last-digit, one-digit, drop-set-cons}
use Rattle.sweep.specs.RunParts.Hexadecimal.{hex_number}
use Rattle.sweep.proofs.run_parts.hexadecimal.write_digits.Goals as goal

pub loop-at-init : goal.loop-at-init
loop-at-init c = record {
  within = omega arith;
  places = c.told-places;
  digits_are =
      ap (digits_onto 64 16 false c.args.n) (drop_of_length-le c.args.places.now {i = 64} (omega (arith, c.told-places))) ∙ all-digits 16 false c.args.n;
}

pub loop-at-preserved : goal.loop-at-preserved
loop-at-preserved c =
    let l = c.loop-at in
    let written = drop-set-cons l.places l.at _ _ c.loop-at-test.true (omega arith) c.hex_digit.ensures in
    record {
      within = omega arith;
      places = length-set l.places (l.at - 1) c.hex_digit.result ∙ l.invariant.places;
      digits_are =
          ap (digits_onto (l.at - 1) 16 false (l.rest / 16)) written
          ∙ (sym (one-digit 16 false l.rest (drop l.at l.places) l.at c.loop-at-test.true c.if-rest-eq0.false) ∙ l.invariant.digits_are);
    }

pub returns-then-rest-eq0 : goal.returns-then-rest-eq0
unfolding hex_number
returns-then-rest-eq0 c =
    let l = c.loop-at in
    let written = drop-set-cons l.places l.at _ _ c.loop-at-test.true (omega arith) c.hex_digit.ensures in
    record {
      within = omega arith;
      digits = written ∙ (sym (last-digit 16 false l.rest (drop l.at l.places) l.at c.loop-at-test.true c.if-rest-eq0.true) ∙ l.invariant.digits_are);
    }

pub returns : goal.returns
unfolding hex_number
returns c =
    let l = c.loop-at in
    let none : l.at ≡ 0 = omega (arith, c.loop-at-test.false) in
    record {
      within = omega arith;
      digits = subst (λ (n : ℕ). digits_onto n 16 false l.rest (drop n l.places) ≡ digits 16 false c.args.n) none l.invariant.digits_are;
    }
