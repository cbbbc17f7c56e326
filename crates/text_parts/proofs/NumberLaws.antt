-- The digits of a number determine it, and the first of them is not 0.
use Rattle.std.proofs.Common.{◌≡◌, ℕ, zero, suc, ◌+◌, ◌-◌, ◌*◌, ◌/◌, ◌%◌, ◌^◌, ◌<◌, ◌≤◌, length, max, ap, sym, ◌∙◌, arith}
use Rattle.std.specs.Prelude.{slice_index}
use Rattle.std.proofs.lemmas.Bool.Decides.{nat_tests}
use Rattle.std.proofs.lemmas.Nat.{pow-add, pow_pos, le-div, leading_length, leading_top}
use Rattle.std.proofs.Math.Arith.{mod-mul}
use Rattle.std.proofs.Math.Nat.{mod-one, mod-eq_of_lt, div-lt_iff_lt-mul}
use Rattle.std.proofs.Math.Pow.{pow_mono}
use Rattle.std.specs.Int.Count.{count_leading_zeros}
use Rattle.text_parts.specs.Numbers.{hex_digit, digit_at, last_digits, digit_count, hexadecimal}
use Rattle.text_parts.proofs.Digits.{last_digits_step, length-last_digits}

-- a digit's code determines it
hex_digit-same : (a b : ℕ) → hex_digit a ≡ hex_digit b → a ≡ b
unfolding hex_digit
hex_digit-same a b e = grind (arith, nat_tests)

-- a remainder with one more digit
next_digit : (k n : ℕ) → n % 2 ^ (4 * suc k) ≡ n / 2 ^ (4 * k) % 16 * 2 ^ (4 * k) + n % 2 ^ (4 * k)
next_digit k n =
    let e : 4 * suc k ≡ 4 + 4 * k = omega arith in
    rw (e, pow-add 2 4 (4 * k)) (mod-mul n (omega arith) (pow_pos (4 * k)))

-- the last k digits are a number's remainder
last_digits-same : (k n m : ℕ) → last_digits k n ≡ last_digits k m → n % 2 ^ (4 * k) ≡ m % 2 ^ (4 * k)
unfolding last_digits digit_at
last_digits-same zero n m e =
    let a : n % 1 ≡ 0 = mod-one n in
    let b : m % 1 ≡ 0 = mod-one m in
    a ∙ sym b
last_digits-same (suc k) n m e =
    let digit : hex_digit (n / 2 ^ (4 * k) % 16) ≡ hex_digit (m / 2 ^ (4 * k) % 16) = cc in
    let rest : last_digits k n ≡ last_digits k m = cc in
    let same : n / 2 ^ (4 * k) % 16 ≡ m / 2 ^ (4 * k) % 16 = hex_digit-same _ _ digit in
    let low : n % 2 ^ (4 * k) ≡ m % 2 ^ (4 * k) = last_digits-same k n m rest in
    next_digit k n ∙ ap (λ d. d * 2 ^ (4 * k) + n % 2 ^ (4 * k)) same
    ∙ ap (λ r. m / 2 ^ (4 * k) % 16 * 2 ^ (4 * k) + r) low ∙ sym (next_digit k m)

-- the digits that are counted hold the whole number
within_digits : (n : ℕ) → n < 2 ^ 64 → n < 2 ^ (4 * digit_count n)
unfolding digit_count
within_digits n h =
    let l = leading_length 64 n h in
    let bits : l.0 ≤ 4 * max 1 ((67 - count_leading_zeros 64 n) / 4) = omega (arith, l.1) in
    let most : 2 ^ l.0 ≤ 2 ^ (4 * max 1 ((67 - count_leading_zeros 64 n) / 4)) = pow_mono bits in
    omega (arith, l.2, most)

-- numbers with the same hexadecimal text are equal
pub hexadecimal-same : (n m : ℕ) → n < 2 ^ 64 → m < 2 ^ 64 → hexadecimal n ≡ hexadecimal m → n ≡ m
unfolding hexadecimal
hexadecimal-same n m hn hm e =
    let count : digit_count n ≡ digit_count m =
    sym (length-last_digits (digit_count n) n) ∙ ap length e ∙ length-last_digits (digit_count m) m in
    let e' : last_digits (digit_count n) n ≡ last_digits (digit_count n) m =
    e ∙ ap (λ k. last_digits k m) (sym count) in
    let r = last_digits-same (digit_count n) n m e' in
    let hm' : m < 2 ^ (4 * digit_count n) = rw count (within_digits m hm) in
    sym (mod-eq_of_lt (within_digits n hn)) ∙ r ∙ mod-eq_of_lt hm'

-- a digit above 0 has a code above 48
hex_digit-above : (d : ℕ) → 0 < d → 48 < hex_digit d
unfolding hex_digit
hex_digit-above d h = grind (arith, nat_tests)

-- a number between two powers has a quotient between 1 and 15
quotient-range : (n j p : ℕ) → p ≤ j → j + 1 ≤ p + 4 → 2 ^ j ≤ n → n < 2 ^ suc j → 0 < n / 2 ^ p % 16
quotient-range n j p low high at_least below =
    let few : 2 ^ p ≤ 2 ^ j = pow_mono low in
    let room : 2 ^ suc j ≤ 2 ^ (p + 4) = pow_mono (omega arith) in
    let split : 2 ^ (p + 4) ≡ 2 ^ p * 16 = pow-add 2 p 4 in
    let under : n / 2 ^ p < 16 = (div-lt_iff_lt-mul (pow_pos p)).1 (omega (arith, few, room, split)) in
    let over : 1 ≤ n / 2 ^ p = le-div 1 n (2 ^ p) (pow_pos p) (omega (arith, few)) in
    rw (mod-eq_of_lt under) over

-- the first digit of a number above 0
first-digit : (n : ℕ) → 0 < n → n < 2 ^ 64 → 0 < digit_at n (digit_count n - 1)
unfolding digit_at digit_count
first-digit n some h =
    let t = leading_top 64 n some h in
    quotient-range n t.0 (4 * (max 1 ((67 - count_leading_zeros 64 n) / 4) - 1)) (omega (arith, t.1)) (omega (arith, t.1)) t.2 t.3

digit_count-pos : (n : ℕ) → 0 < digit_count n
unfolding digit_count
digit_count-pos n = omega arith

-- the hexadecimal text of a number above 0 does not begin with 0
pub first-above : (n : ℕ) → 0 < n → n < 2 ^ 64 → 48 < slice_index (hexadecimal n) 0
unfolding hexadecimal
first-above n some h =
    rw (last_digits_step (digit_count n) n (digit_count-pos n)) (hex_digit-above (digit_at n (digit_count n - 1)) (first-digit n some h))
