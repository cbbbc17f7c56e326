-- The digits of a number of one byte, and of one of more by its last byte.
use Rattle.std.proofs.Common.{◌≡◌, inl, inr, ℕ, zero, suc, ◌+◌, ◌*◌, ◌/◌, ◌%◌, ◌^◌, ◌<◌, ◌≤◌, List, [], ◌∷◌, ◌++◌, length, refl, ap, ◌∙◌, append_assoc, length-append, arith}
use Rattle.std.specs.Prelude.{slice_index_or}
use Rattle.std.specs.Int.Count.{count_leading_zeros}
use Rattle.std.proofs.lemmas.Bool.{cases_lt}
use Rattle.std.proofs.lemmas.Nat.{leading_top, pow-add}
use Rattle.std.proofs.Math.Nat.{div-div-eq-div-mul}
use Rattle.std.proofs.Math.Pow.{pow_mono}
use Rattle.text_parts.specs.Numbers.{hex_digit, digit_at, last_digits, digit_count, hexadecimal}
use Rattle.text_parts.specs.DigitPairs.{digit_pair}
use Rattle.text_parts.proofs.Digits.{length-last_digits, high_of_pair, low_of_pair}

-- of two powers with a number between them, the first is of the lower exponent
exponent_below : (j k n : ℕ) → 2 ^ j ≤ n → n < 2 ^ k → j < k
exponent_below j k n low high = elim (cases_lt j k) [
  | inl lt ↦ lt
  | inr ge ↦ let more : 2 ^ k ≤ 2 ^ j = pow_mono ge in absurd (omega (arith, low, high, more))
]

-- a number below 16 has one digit
one_digit : (n : ℕ) → n < 16 → digit_count n ≡ 1
unfolding digit_count count_leading_zeros
one_digit zero h = refl
one_digit (suc k) h =
    let t = leading_top 64 (suc k) (omega arith) (omega (arith, h)) in
    let few : t.0 < 4 = exponent_below t.0 4 (suc k) t.2 h in
    omega (arith, t.1, few)

-- a greater one below 256 has two
two_digits : (n : ℕ) → 16 ≤ n → n < 256 → digit_count n ≡ 2
unfolding digit_count
two_digits n some h =
    let t = leading_top 64 n (omega (arith, some)) (omega (arith, h)) in
    let few : t.0 < 8 = exponent_below t.0 8 n t.2 h in
    let many : 4 < suc t.0 = exponent_below 4 (suc t.0) n some t.3 in
    omega (arith, t.1, few, many)

-- the text of each
one_digit-text : (n : ℕ) → n < 16 → hexadecimal n ≡ hex_digit (n % 16) ∷ []
unfolding hexadecimal last_digits digit_at
one_digit-text n h =
    let last : n / 2 ^ (4 * 0) % 16 ≡ n % 16 = omega arith in
    rw (one_digit n h, last)

two_digits-text : (n : ℕ) → 16 ≤ n → n < 256 → hexadecimal n ≡ hex_digit (n / 16) ∷ hex_digit (n % 16) ∷ []
unfolding hexadecimal last_digits digit_at
two_digits-text n some h =
    let first : n / 2 ^ (4 * 1) % 16 ≡ n / 16 = omega (arith, h) in
    let last : n / 2 ^ (4 * 0) % 16 ≡ n % 16 = omega arith in
    rw (two_digits n some h, first, last)

-- how long each is
pub one_digit-length : (n : ℕ) → n < 16 → length (hexadecimal n) ≡ 1
one_digit-length n h = ap length (one_digit-text n h)

-- a byte from 16 on has two hexadecimal digits
pub two_digits-length : (n : ℕ) → 16 ≤ n → n < 256 → length (hexadecimal n) ≡ 2
two_digits-length n some h = ap length (two_digits-text n some h)

-- what is appended of a byte's pair of digits
pub one_digit-appended : (old pair : List ℕ) (n : ℕ) → pair ≡ digit_pair n → n < 16 → old ++ slice_index_or pair 1 0 ∷ [] ≡ old ++ hexadecimal n
unfolding digit_pair
one_digit-appended old pair n pair_is h =
    let low : slice_index_or pair 1 0 ≡ hex_digit (n % 16) = ap (λ (xs : List ℕ). slice_index_or xs 1 0) pair_is in
    rw (low, one_digit-text n h)

-- its pair of digits is its hexadecimal text
pub two_digits-appended : (old pair : List ℕ) (n : ℕ) → pair ≡ digit_pair n → 16 ≤ n → n < 256
    → (old ++ slice_index_or pair 0 0 ∷ []) ++ slice_index_or pair 1 0 ∷ [] ≡ old ++ hexadecimal n
unfolding digit_pair
two_digits-appended old pair n pair_is some h =
    let high : slice_index_or pair 0 0 ≡ hex_digit (n / 16) = ap (λ (xs : List ℕ). slice_index_or xs 0 0) pair_is in
    let low : slice_index_or pair 1 0 ≡ hex_digit (n % 16) = ap (λ (xs : List ℕ). slice_index_or xs 1 0) pair_is in
    rw (append_assoc old (slice_index_or pair 0 0 ∷ []) (slice_index_or pair 1 0 ∷ []), high, low, two_digits-text n some h)

-- ---- a number of more than one byte

-- two digits more than without its last byte
count-byte : (n : ℕ) → 256 ≤ n → n < 2 ^ 64 → digit_count n ≡ digit_count (n / 256) + 2
unfolding digit_count
count-byte n some h =
    let t = leading_top 64 n (omega (arith, some)) h in
    let u = leading_top 64 (n / 256) (omega (arith, some)) (omega (arith, h)) in
    let from : 2 ^ (u.0 + 8) ≤ n = rw (pow-add 2 u.0 8) (omega (arith, u.2)) in
    let below : n < 2 ^ (suc u.0 + 8) = rw (pow-add 2 (suc u.0) 8) (omega (arith, u.3)) in
    let many : u.0 + 8 < suc t.0 = exponent_below (u.0 + 8) (suc t.0) n from t.3 in
    let few : t.0 < suc u.0 + 8 = exponent_below t.0 (suc u.0 + 8) n t.2 below in
    omega (arith, t.1, u.1, many, few)

-- a digit in front of the last byte
digit-behind : (n k : ℕ) → digit_at n (k + 2) ≡ digit_at (n / 256) k
unfolding digit_at
digit-behind n k =
    let apart : 4 * (k + 2) ≡ 8 + 4 * k = omega arith in
    rw (apart, pow-add 2 8 (4 * k), div-div-eq-div-mul n (2 ^ 8) (2 ^ (4 * k))) refl

-- the last byte's digits stand behind the others
digits-behind : (k n : ℕ) → last_digits (k + 2) n ≡ last_digits k (n / 256) ++ last_digits 2 n
unfolding last_digits
digits-behind zero n = refl
digits-behind (suc k) n =
    let more : suc k + 2 ≡ suc (k + 2) = omega arith in
    rw (more, digit-behind n k, digits-behind k n) refl

-- the text of a number of more than one byte
pub last-byte-text : (n : ℕ) → 256 ≤ n → n < 2 ^ 64 → hexadecimal n ≡ hexadecimal (n / 256) ++ last_digits 2 n
unfolding hexadecimal
last-byte-text n some h = rw (count-byte n some h) (digits-behind (digit_count (n / 256)) n)

-- how long it is
pub last-byte-length : (n : ℕ) → 256 ≤ n → n < 2 ^ 64 → length (hexadecimal n) ≡ length (hexadecimal (n / 256)) + 2
last-byte-length n some h =
    ap length (last-byte-text n some h) ∙ length-append (hexadecimal (n / 256)) (last_digits 2 n)
    ∙ ap (λ (k : ℕ). length (hexadecimal (n / 256)) + k) (length-last_digits 2 n)

-- the room of all holds the front and, behind it, the last byte
pub front-fits : (old : List ℕ) (n room : ℕ) → length old + length (hexadecimal n) ≤ room → 256 ≤ n → n < 2 ^ 64
    → length old + length (hexadecimal (n / 256)) ≤ room
front-fits old n room fits some h = omega (arith, fits, last-byte-length n some h)

-- the last byte of a number has room if the number has
pub last-byte-fits : (old before : List ℕ) (n room : ℕ) → before ≡ old ++ hexadecimal (n / 256) → length old + length (hexadecimal n) ≤ room
    → 256 ≤ n → n < 2 ^ 64 → length before + 2 ≤ room
last-byte-fits old before n room before_is fits some h =
    omega (arith, fits, last-byte-length n some h, ap length before_is, length-append old (hexadecimal (n / 256)))

-- what is appended of its last byte
pub last-byte-appended : (old before : List ℕ) (n : ℕ) → before ≡ old ++ hexadecimal (n / 256) → 256 ≤ n → n < 2 ^ 64 → before ++ last_digits 2 n ≡ old ++ hexadecimal n
last-byte-appended old before n before_is some h =
    rw (before_is, append_assoc old (hexadecimal (n / 256)) (last_digits 2 n), ← (last-byte-text n some h)) refl

-- a pair of digits is that of the last byte
pub pair-appended : (old pair : List ℕ) (byte n : ℕ) → pair ≡ digit_pair byte → byte ≡ n / 2 ^ (8 * 0) % 256
    → (old ++ slice_index_or pair 0 0 ∷ []) ++ slice_index_or pair 1 0 ∷ [] ≡ old ++ last_digits 2 n
unfolding last_digits
pair-appended old pair byte n pair_is byte_is =
    rw (append_assoc old (slice_index_or pair 0 0 ∷ []) (slice_index_or pair 1 0 ∷ []), high_of_pair pair byte n 0 pair_is byte_is, low_of_pair pair byte n 0 pair_is byte_is) refl

-- ---- a number of sixteen digits

-- it has them from 16 ^ 15 on
sixteen_digits-count : (n : ℕ) → 2 ^ 60 ≤ n → n < 2 ^ 64 → digit_count n ≡ 16
unfolding digit_count
sixteen_digits-count n some h =
    let t = leading_top 64 n (omega (arith, some)) h in
    let few : t.0 < 64 = exponent_below t.0 64 n t.2 h in
    let many : 60 < suc t.0 = exponent_below 60 (suc t.0) n some t.3 in
    omega (arith, t.1, few, many)

-- a number from 2 to the 60 on has sixteen digits
pub sixteen_digits : (n : ℕ) → 2 ^ 60 ≤ n → n < 2 ^ 64 → hexadecimal n ≡ last_digits (2 * 8) n
unfolding hexadecimal
sixteen_digits n some h = rw (sixteen_digits-count n some h) refl
