-- The value of a word of hexadecimal digits, one digit at a time.
use Rattle.std.proofs.Common.{◌≡◌, ℕ, ◌+◌, ◌*◌, ◌<◌, ◌≤◌, ◌^◌, List, ◌∷◌, drop, get_or, length, Option, Some, None, refl, ap, arith, add-one, drop-cons, subst, sym, ◌∙◌, lit<}
use Rattle.std.proofs.lemmas.Grind.{pow_more}
use Rattle.std.proofs.Math.Nat.{pow-le-pow_right}
use Rattle.text_parts.specs.declared.digit_values.LetterCase.{LetterCase}
use Rattle.text_parts.specs.DigitValues.{digit_value, digits_from}

-- another character ends it
digits_from-none : (letters : LetterCase) (value c : ℕ) (digits : List ℕ) → digit_value letters c ≡ None → digits_from letters value (c ∷ digits) ≡ None
unfolding digits_from
digits_from-none letters value c digits none =
    let P : Option ℕ → Type 0 = λ o. (elim o as (λ _. Option ℕ) [ None ↦ None | Some d ↦ digits_from letters (16 * value + d) digits ]) ≡ None in
    subst P (sym none) refl

-- a digit joins the value
pub digits_from-some : (letters : LetterCase) (value c d : ℕ) (digits : List ℕ) → digit_value letters c ≡ Some d →
    digits_from letters value (c ∷ digits) ≡ digits_from letters (16 * value + d) digits
unfolding digits_from
digits_from-some letters value c d digits some =
    let P : Option ℕ → Type 0 = λ o.
    (elim o as (λ _. Option ℕ) [ None ↦ None | Some d ↦ digits_from letters (16 * value + d) digits ]) ≡ digits_from letters (16 * value + d) digits in
    subst P (sym some) refl

-- a word that goes on with another character names nothing
pub digits_stop : (letters : LetterCase) (value : ℕ) (digits : List ℕ) (i : ℕ) → i < length digits → digit_value letters (get_or digits i 0) ≡ None →
    digits_from letters value (drop i digits) ≡ None
digits_stop letters value digits i lt none =
    ap (digits_from letters value) (drop-cons digits i 0 lt) ∙ digits_from-none letters value _ _ none

-- a word that goes on with a digit
pub digits_go_on : (letters : LetterCase) (value : ℕ) (digits : List ℕ) (i d : ℕ) → i < length digits →
    digit_value letters (get_or digits i 0) ≡ Some d →
    digits_from letters value (drop i digits) ≡ digits_from letters (16 * value + d) (drop (i + 1) digits)
digits_go_on letters value digits i d lt some =
    ap (digits_from letters value) (drop-cons digits i 0 lt) ∙ rw add-one (digits_from-some letters value _ d _ some)

-- the value stays below 16 to the number of digits
pub one_more_digit : (value d i : ℕ) → value < 16 ^ i → d < 16 → 16 * value + d < 16 ^ (i + 1)
one_more_digit value d i small digit = omega (arith, pow_more 16 i)

-- at most 16 digits fit 64 bits
digits_fit : (i : ℕ) → i ≤ 16 → 16 ^ i ≤ 2 ^ 64
digits_fit i le = let e : 16 ^ i ≤ 16 ^ 16 = pow-le-pow_right (lit< tt) le in omega arith

-- what one more digit gives fits 64 bits
pub digit_fits : (value d i n : ℕ) → value < 16 ^ i → d < 16 → i < n → n ≤ 16 → 16 * value + d < 2 ^ 64
digit_fits value d i n small digit lt le =
    let whole = digits_fit (i + 1) (omega arith) in
    let below = one_more_digit value d i small digit in
    omega arith
