-- The digits of a number, one step at a time.
use Rattle.std.proofs.Common.{◌≡◌, ℕ, zero, suc, ◌+◌, ◌-◌, ◌*◌, ◌/◌, ◌%◌, ◌^◌, ◌<◌, ◌≤◌, List, [], ◌∷◌, ◌++◌, length, refl, ap, sym, ◌∙◌, append_assoc, append-nil, length-append, arith}
use Rattle.std.proofs.lemmas.Nat.{pow-add}
use Rattle.std.proofs.Math.Nat.{div-div-eq-div-mul}
use Rattle.std.specs.Prelude.{slice_index_or}
use Rattle.text_parts.specs.Numbers.{hex_digit, digit_at, last_digits}
use Rattle.text_parts.specs.DigitPairs.{digit_pair}

-- no digits
pub last_digits_none : (k n : ℕ) → k ≤ 0 → last_digits k n ≡ []
unfolding last_digits
last_digits_none zero n h = refl
last_digits_none (suc k) n h = absurd (omega arith)

-- the first of the last k digits
pub last_digits_step : (k n : ℕ) → 0 < k → last_digits k n ≡ hex_digit (digit_at n (k - 1)) ∷ last_digits (k - 1) n
unfolding last_digits
last_digits_step zero n h = absurd (omega arith)
last_digits_step (suc k) n h = let e : suc k - 1 ≡ k = omega arith in rw e

-- there are as many as are asked for
pub length-last_digits : (k n : ℕ) → length (last_digits k n) ≡ k
unfolding last_digits
length-last_digits zero n = refl
length-last_digits (suc k) n = let e = length-last_digits k n in omega arith

pub ruleset digit_steps = (last_digits_none, last_digits_step)

-- ---- the digits of a byte

-- the digits of a byte of a number are two digits of the number
pub high_digit : (n position : ℕ) → n / 2 ^ (8 * position) % 256 / 16 ≡ digit_at n (2 * position + 1)
unfolding digit_at
high_digit n position =
    let apart : 4 * (2 * position + 1) ≡ 8 * position + 4 = omega arith in
    let split : n / 2 ^ (8 * position + 4) ≡ n / 2 ^ (8 * position) / 16 = rw (pow-add 2 (8 * position) 4) (sym (div-div-eq-div-mul n (2 ^ (8 * position)) 16)) in
    rw (apart, split) (omega arith)

-- the low digit of a byte of a number
pub low_digit : (n position : ℕ) → n / 2 ^ (8 * position) % 256 % 16 ≡ digit_at n (2 * position)
unfolding digit_at
low_digit n position = let apart : 4 * (2 * position) ≡ 8 * position = omega arith in rw apart (omega arith)

-- the pair of a byte of a number holds them
pub high_of_pair : (pair : List ℕ) (byte n position : ℕ) → pair ≡ digit_pair byte → byte ≡ n / 2 ^ (8 * position) % 256 → slice_index_or pair 0 0 ≡ hex_digit (digit_at n (2 * position + 1))
unfolding digit_pair
high_of_pair pair byte n position pair_is byte_is =
    ap (λ (xs : List ℕ). slice_index_or xs 0 0) pair_is ∙ ap (λ (k : ℕ). hex_digit (k / 16)) byte_is ∙ ap hex_digit (high_digit n position)

-- the second digit of a pair is the low digit of its byte
pub low_of_pair : (pair : List ℕ) (byte n position : ℕ) → pair ≡ digit_pair byte → byte ≡ n / 2 ^ (8 * position) % 256 → slice_index_or pair 1 0 ≡ hex_digit (digit_at n (2 * position))
unfolding digit_pair
low_of_pair pair byte n position pair_is byte_is =
    ap (λ (xs : List ℕ). slice_index_or xs 1 0) pair_is ∙ ap (λ (k : ℕ). hex_digit (k % 16)) byte_is ∙ ap hex_digit (low_digit n position)

-- the first two of the last digits
pub last_digits_byte : (left n : ℕ) → 0 < left → last_digits (2 * left) n ≡ hex_digit (digit_at n (2 * (left - 1) + 1)) ∷ hex_digit (digit_at n (2 * (left - 1))) ∷ last_digits (2 * (left - 1)) n
last_digits_byte left n some =
    let first : 2 * left - 1 ≡ 2 * (left - 1) + 1 = omega arith in
    let second : 2 * (left - 1) + 1 - 1 ≡ 2 * (left - 1) = omega arith in
    rw (last_digits_step (2 * left) n (omega arith), first, last_digits_step (2 * (left - 1) + 1) n (omega arith), second)

-- ---- the loop over bytes

-- there is room for the next two digits
pub room_for_byte : (out init : List ℕ) (left count n capacity : ℕ) → out ++ last_digits (2 * left) n ≡ init ++ last_digits (2 * count) n → length init + length (last_digits (2 * count) n) ≤ capacity → 0 < left → length out + 2 ≤ capacity
room_for_byte out init left count n capacity e room some =
    omega (arith, length-last_digits, simp length-append at (ap length e))

-- two more digits
pub one_more_byte : (out init : List ℕ) (high low left count n : ℕ) → high ≡ hex_digit (digit_at n (2 * (left - 1) + 1)) → low ≡ hex_digit (digit_at n (2 * (left - 1))) → 0 < left → out ++ last_digits (2 * left) n ≡ init ++ last_digits (2 * count) n → ((out ++ high ∷ []) ++ low ∷ []) ++ last_digits (2 * (left - 1)) n ≡ init ++ last_digits (2 * count) n
one_more_byte out init high low left count n high_is low_is some whole =
    rw (append_assoc (out ++ high ∷ []) (low ∷ []) (last_digits (2 * (left - 1)) n), append_assoc out (high ∷ []) (low ∷ last_digits (2 * (left - 1)) n), high_is, low_is, ← (last_digits_byte left n some)) whole

-- no more digits
pub no_more_bytes : (out init : List ℕ) (left count n : ℕ) → left ≤ 0 → out ++ last_digits (2 * left) n ≡ init ++ last_digits (2 * count) n → out ≡ init ++ last_digits (2 * count) n
no_more_bytes out init left count n none whole =
    let e = rw (last_digits_none (2 * left) n (omega arith)) at whole in sym (append-nil _) ∙ e

-- ---- one digit in front of the bytes

-- an odd count has one digit more than its bytes
pub odd_digit : (old : List ℕ) (d digit count n : ℕ) → d ≡ hex_digit digit → digit ≡ digit_at n (count - 1) → count % 2 ≡ 1 → (old ++ d ∷ []) ++ last_digits (2 * (count / 2)) n ≡ old ++ last_digits count n
odd_digit old d digit count n d_is digit_is odd =
    let half : count - 1 ≡ 2 * (count / 2) = omega arith in
    rw (append_assoc old (d ∷ []) (last_digits (2 * (count / 2)) n), d_is, digit_is, last_digits_step count n (omega arith), half)

-- an even count has no other digits
pub no_odd_digit : (old : List ℕ) (count n : ℕ) → (count % 2 ≡ 1 → ⊥) → old ++ last_digits (2 * (count / 2)) n ≡ old ++ last_digits count n
no_odd_digit old count n even =
    let whole : 2 * (count / 2) ≡ count = omega arith in rw whole
