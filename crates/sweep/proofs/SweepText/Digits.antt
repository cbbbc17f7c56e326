-- The digits of bytes, two at a time.
use Rattle.std.proofs.Common.{◌≡◌, ℕ, zero, suc, ◌+◌, ◌-◌, ◌*◌, ◌<◌, ◌/◌, ◌%◌, List, [], ◌∷◌, ◌++◌, length, take, drop, slice_index, slice_set, get_or, refl, arith, ap, sym, ◌∙◌, append_assoc}
use Rattle.std.proofs.Math.Seq.{take-suc, drop-cons}
use Rattle.std.proofs.lemmas.List.{set-append_right, length-take-le}
use Rattle.hex.specs.Hex.{lower_digits, encode_with, encode_lower}
use Rattle.text_parts.specs.Numbers.{hex_digit}
use Rattle.text_parts.specs.DigitPairs.{digit_pair}

-- the digits from a number on
unfoldable digits_from : ℕ → ℕ → List ℕ
digits_from zero d = []
digits_from (suc count) d = hex_digit d ∷ digits_from count (suc d)

-- each position of the sixteen digits holds the digit of its number
digits-are : lower_digits ≡ digits_from 16 0
unfolding digits_from hex_digit
digits-are = refl

-- what stands at a position of the digits from a number on
digits-at : (count d n : ℕ) → n < count → slice_index (digits_from count d) n ≡ hex_digit (d + n)
unfolding digits_from
digits-at zero d n h = absurd (omega (arith, h))
digits-at (suc count) d zero h = let same : d + 0 ≡ d = omega arith in rw same refl
digits-at (suc count) d (suc n) h =
    let same : d + suc n ≡ suc d + n = omega arith in rw same (digits-at count (suc d) n (omega (arith, h)))

digit-is : (n : ℕ) → n < 16 → slice_index lower_digits n ≡ hex_digit n
digit-is n h =
    let same : 0 + n ≡ n = omega arith in
    rw same at (ap (λ (xs : List ℕ). slice_index xs n) digits-are ∙ digits-at 16 0 n h)

-- the two digits of a byte are its hex text
pair-is : (byte : ℕ) → byte < 256 → encode_lower (byte ∷ []) ≡ digit_pair byte
unfolding encode_with digit_pair
pair-is byte h =
    let high : slice_index lower_digits (byte / 16) ≡ hex_digit (byte / 16) = digit-is (byte / 16) (omega (arith, h)) in
    let low : slice_index lower_digits (byte % 16) ≡ hex_digit (byte % 16) = digit-is (byte % 16) (omega arith) in
    rw high (rw low refl)

-- the hex text of one byte more
encode-more : (xs : List ℕ) (b : ℕ) → encode_lower (xs ++ b ∷ []) ≡ encode_lower xs ++ encode_lower (b ∷ [])
unfolding encode_with
encode-more [] b = refl
encode-more (x ∷ xs) b = ap (λ (s : List ℕ). slice_index lower_digits (x / 16) ∷ slice_index lower_digits (x % 16) ∷ s) (encode-more xs b)

length-encode : (xs : List ℕ) → length (encode_lower xs) ≡ 2 * length xs
unfolding encode_with
length-encode [] = refl
length-encode (x ∷ xs) = omega (arith, length-encode xs)

-- two stores behind some of a list
two_set : (front : List ℕ) (n a b x y : ℕ) (back : List ℕ) → length front ≡ n → slice_set (slice_set (front ++ a ∷ b ∷ back) n x) (n + 1) y ≡ front ++ x ∷ y ∷ back
two_set front n a b x y back h =
    let zero_is : n - n ≡ 0 = omega arith in
    let one_is : n + 1 - n ≡ 1 = omega arith in
    let first : slice_set (front ++ a ∷ b ∷ back) n x ≡ front ++ x ∷ b ∷ back =
    set-append_right front (a ∷ b ∷ back) n n x h (omega arith) ∙ rw zero_is refl in
    ap (λ (xs : List ℕ). slice_set xs (n + 1) y) first
    ∙ (set-append_right front (x ∷ b ∷ back) n (n + 1) y h (omega arith) ∙ rw one_is refl)

-- the digits of one byte more, written behind those of the bytes before it
pub digits_written : (bytes initial places pair : List ℕ) (n byte : ℕ) → n < length bytes → length initial ≡ 2 * length bytes → byte < 256
    → places ≡ encode_lower (take n bytes) ++ drop (2 * n) initial → byte ≡ get_or bytes n 0 → pair ≡ digit_pair byte
    → slice_set (slice_set places (2 * n) (get_or pair 0 0)) (2 * n + 1) (get_or pair 1 0) ≡ encode_lower (take (n + 1) bytes) ++ drop (2 * (n + 1)) initial
unfolding digit_pair
digits_written bytes initial places pair n byte below lengths small is at e =
    let high : ℕ = hex_digit (byte / 16) in
    let low : ℕ = hex_digit (byte % 16) in
    let back : List ℕ = drop (2 * (n + 1)) initial in
    let rest : drop (2 * n) initial ≡ get_or initial (2 * n) 0 ∷ get_or initial (suc (2 * n)) 0 ∷ drop (suc (suc (2 * n))) initial =
    drop-cons initial (2 * n) 0 (omega (arith, below, lengths))
    ∙ ap (λ (xs : List ℕ). get_or initial (2 * n) 0 ∷ xs) (drop-cons initial (suc (2 * n)) 0 (omega (arith, below, lengths))) in
    let next : suc (suc (2 * n)) ≡ 2 * (n + 1) = omega arith in
    let taken : length (take n bytes) ≡ n = length-take-le n bytes (omega (arith, below)) in
    let front : length (encode_lower (take n bytes)) ≡ 2 * n = length-encode (take n bytes) ∙ ap (λ (k : ℕ). 2 * k) taken in
    let more : take (n + 1) bytes ≡ take n bytes ++ byte ∷ [] =
    let one : n + 1 ≡ suc n = omega arith in rw (one, at) (take-suc bytes n 0 below) in
    let text : encode_lower (take (n + 1) bytes) ++ back ≡ encode_lower (take n bytes) ++ high ∷ low ∷ back =
    ap (λ (xs : List ℕ). encode_lower xs ++ back) more ∙ (ap (λ (xs : List ℕ). xs ++ back) (encode-more (take n bytes) byte
    ∙ ap (λ (xs : List ℕ). encode_lower (take n bytes) ++ xs) (pair-is byte small)) ∙ append_assoc (encode_lower (take n bytes)) (high ∷ low ∷ []) back) in
    rw (is, e, rest, next) (two_set (encode_lower (take n bytes)) (2 * n) _ _ high low back front ∙ sym text)
