-- A number that is printed is read again.
use Rattle.std.proofs.Common.{◌≡◌, ℕ, zero, suc, ◌+◌, ◌-◌, ◌*◌, ◌/◌, ◌^◌, ◌<◌, ◌≤◌, true, List, [], ◌∷◌, ◌++◌, length, max, Some, refl, ap, sym, ◌∙◌, arith}
use Rattle.std.specs.Prelude.{◌&&◌, ◌||◌, not, ◌==◌, nat_lt, nat_le, slice_index}
use Rattle.std.specs.List.{list_all}
use Rattle.std.proofs.lemmas.Bool.Decides.{nat_tests}
use Rattle.std.proofs.lemmas.Nat.{pow-add, leading_length}
use Rattle.std.proofs.Math.Nat.{div-div-eq-div-mul, div-eq_of_lt}
use Rattle.std.proofs.Math.Pow.{pow_mono}
use Rattle.std.proofs.lemmas.Bool.{and_from}
use lib.Count.{count_leading_zeros}
use Rattle.text_parts.specs.declared.style.Style.TheVariants.{Intel}
use Rattle.text_parts.specs.Numbers.{hex_digit, digit_at, last_digits, digit_count, hexadecimal, number}
use Rattle.text_parts.specs.declared.digit_values.LetterCase.TheVariants.{Lower}
use Rattle.text_parts.specs.DigitValues.{digit_value, digits_from}
use Rattle.text_parts.proofs.Digits.{length-last_digits}
use Rattle.text_parts.proofs.DigitValues.{digits_from-some}
use Rattle.text_parts.proofs.NumberLaws.{first-above}
use Rattle.intel_words.specs.Scanning.{is_word_byte}
use Rattle.intel_words.specs.Scanning.{first, rest}
use Rattle.intel_words.specs.ReadNumbers.{has_digit_form, number_in, number_named}
use Rattle.intel_words.proofs.Below.{agree-below}

-- ---- digits

-- a digit is read
digit-read : (d : ℕ) → d < 16 → digit_value Lower (hex_digit d) ≡ Some d
unfolding digit_value hex_digit
digit-read d h = agree-below (λ k. digit_value Lower (hex_digit k)) (λ k. Some k) 16 d refl h

digit-byte : (d : ℕ) → d < 16 → is_word_byte (hex_digit d) ≡ true
unfolding is_word_byte hex_digit
digit-byte d h = agree-below (λ k. is_word_byte (hex_digit k)) (λ k. true) 16 d refl h

-- a digit of a number
digit-small : (n k : ℕ) → digit_at n k < 16
unfolding digit_at
digit-small n k = omega arith

-- the digits in front of the last k
next-quotient : (k n : ℕ) → 16 * (n / 2 ^ (4 * suc k)) + digit_at n k ≡ n / 2 ^ (4 * k)
unfolding digit_at
next-quotient k n =
    let apart : 4 * suc k ≡ 4 * k + 4 = omega arith in
    let split : n / 2 ^ (4 * k + 4) ≡ n / 2 ^ (4 * k) / 16 = rw (pow-add 2 (4 * k) 4) (sym (div-div-eq-div-mul n (2 ^ (4 * k)) 16)) in
    rw (apart, split) (omega arith)

-- the last digits join the others
last_digits-read : (k n : ℕ) → digits_from Lower (n / 2 ^ (4 * k)) (last_digits k n) ≡ Some n
unfolding last_digits digits_from
last_digits-read zero n = let e : n / 1 ≡ n = omega arith in ap (λ (m : ℕ). Some m) e
last_digits-read (suc k) n =
    digits_from-some Lower (n / 2 ^ (4 * suc k)) (hex_digit (digit_at n k)) (digit_at n k) (last_digits k n) (digit-read (digit_at n k) (digit-small n k))
    ∙ (ap (λ (v : ℕ). digits_from Lower v (last_digits k n)) (next-quotient k n) ∙ last_digits-read k n)

last_digits-bytes : (k n : ℕ) → list_all is_word_byte (last_digits k n) ≡ true
unfolding last_digits
last_digits-bytes zero n = refl
last_digits-bytes (suc k) n =
    and_from (is_word_byte (hex_digit (digit_at n k))) (list_all is_word_byte (last_digits k n)) (digit-byte (digit_at n k) (digit-small n k)) (last_digits-bytes k n)

-- ---- a number

within-digits : (n : ℕ) → n < 2 ^ 64 → n < 2 ^ (4 * digit_count n)
unfolding digit_count
within-digits n h =
    let l = leading_length 64 n h in
    let bits : l.0 ≤ 4 * max 1 ((67 - count_leading_zeros 64 n) / 4) = omega (arith, l.1) in
    let most : 2 ^ l.0 ≤ 2 ^ (4 * max 1 ((67 - count_leading_zeros 64 n) / 4)) = pow_mono bits in
    omega (arith, l.2, most)

count-some : (n : ℕ) → 0 < digit_count n
unfolding digit_count
count-some n = omega arith

count-few : (n : ℕ) → digit_count n ≤ 16
unfolding digit_count
count-few n = omega arith

first-index : (xs : List ℕ) → first xs ≡ slice_index xs 0
unfolding first
first-index [] = refl
first-index (c ∷ cs) = refl

form-by : (l f : ℕ) → 0 < l → l ≤ 16 → 48 < f → (nat_lt 0 l && (nat_le l 16 && (l == 1 || not (f == 48)))) ≡ true
form-by l f some few above = grind (arith, nat_tests)

form-above : (n : ℕ) → 0 < n → n < 2 ^ 64 → has_digit_form (hexadecimal n) ≡ true
unfolding has_digit_form hexadecimal
form-above n some h =
    let count : length (last_digits (digit_count n) n) ≡ digit_count n = length-last_digits (digit_count n) n in
    let above : 48 < first (hexadecimal n) = rw (first-index (hexadecimal n)) (first-above n some h) in
    let a = count-some n in
    let b = count-few n in
    form-by (length (last_digits (digit_count n) n)) (first (last_digits (digit_count n) n)) (omega arith) (omega arith) above

form-of : (n : ℕ) → n < 2 ^ 64 → has_digit_form (hexadecimal n) ≡ true
unfolding has_digit_form hexadecimal last_digits hex_digit digit_at digit_count first count_leading_zeros
form-of zero h = refl
form-of (suc n) h = form-above (suc n) (omega arith) h

hexadecimal-read : (n : ℕ) → n < 2 ^ 64 → digits_from Lower 0 (hexadecimal n) ≡ Some n
unfolding hexadecimal
hexadecimal-read n h =
    let none : n / 2 ^ (4 * digit_count n) ≡ 0 = div-eq_of_lt (within-digits n h) in
    ap (λ (v : ℕ). digits_from Lower v (last_digits (digit_count n) n)) (sym none) ∙ last_digits-read (digit_count n) n

number_in-read : (n : ℕ) → n < 2 ^ 64 → number_in (hexadecimal n) ≡ Some n
unfolding number_in
number_in-read n h = rw (form-of n h) (hexadecimal-read n h)

-- a number that is printed is read
pub number-read : (n : ℕ) → n < 2 ^ 64 → number_named (number Intel n) ≡ Some n
unfolding number_named number first rest
number-read n h = number_in-read n h

-- its bytes are letters and digits
pub number-bytes : (n : ℕ) → list_all is_word_byte (number Intel n) ≡ true
unfolding number hexadecimal is_word_byte
number-bytes n = last_digits-bytes (digit_count n) n

-- it begins with 0
pub number-first : (n : ℕ) (more : List ℕ) → first (number Intel n ++ more) ≡ 48
unfolding number first
number-first n more = refl
