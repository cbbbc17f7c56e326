-- The digits of a number, written from the last one on.
use Rattle.std.proofs.Common.{◌≡◌, ℕ, zero, suc, ◌-◌, ◌/◌, ◌%◌, ◌<◌, ◌≤◌, Bool, true, false, cond, List, [], ◌∷◌, length, drop, set, refl, ap, ◌∙◌, arith, drop-cons, get_or-set_same, drop-set-lt}
use Rattle.std.specs.Prelude.{◌==◌}
use Rattle.std.proofs.Math.ListN.{length-set}
use Rattle.std.proofs.lemmas.Bool.{eq-eqb, ne_eqb}
use Rattle.std.specs.Fmt.{digits, digit_glyph, digits_onto}

-- 64 digits are enough for each number
pub all-digits : (base : ℕ) (upper : Bool) (n : ℕ) → digits_onto 64 base upper n [] ≡ digits base upper n
unfolding digits
all-digits base upper n = refl

one-step : (base : ℕ) (upper : Bool) (n : ℕ) (acc : List ℕ) (k : ℕ) (t : Bool) → (n / base == 0) ≡ t →
    digits_onto (suc k) base upper n acc
    ≡ cond t (digit_glyph upper (n % base) ∷ acc) (digits_onto k base upper (n / base) (digit_glyph upper (n % base) ∷ acc))
one-step base upper n acc k t e =
    ap (λ (b : Bool). cond b (digit_glyph upper (n % base) ∷ acc) (digits_onto k base upper (n / base) (digit_glyph upper (n % base) ∷ acc))) e

-- the highest digit
pub last-digit : (base : ℕ) (upper : Bool) (n : ℕ) (acc : List ℕ) (i : ℕ) → 0 < i → n / base ≡ 0 →
    digits_onto i base upper n acc ≡ digit_glyph upper (n % base) ∷ acc
last-digit base upper n acc zero h e = absurd (omega arith)
last-digit base upper n acc (suc k) h e = one-step base upper n acc k true (eq-eqb _ 0 e)

-- a digit with others before it
pub one-digit : (base : ℕ) (upper : Bool) (n : ℕ) (acc : List ℕ) (i : ℕ) → 0 < i → (n / base ≡ 0 → ⊥) →
    digits_onto i base upper n acc ≡ digits_onto (i - 1) base upper (n / base) (digit_glyph upper (n % base) ∷ acc)
one-digit base upper n acc zero h e = absurd (omega arith)
one-digit base upper n acc (suc k) h e =
    one-step base upper n acc k false (ne_eqb _ 0 e)
    ∙ ap (λ (j : ℕ). digits_onto j base upper (n / base) (digit_glyph upper (n % base) ∷ acc)) {x = k} {y = suc k - 1} (omega arith)

-- what is written before place i stands before the places from i on
pub drop-set-cons : (out : List ℕ) (i x g : ℕ) → 0 < i → i ≤ length out → x ≡ g → drop (i - 1) (set out (i - 1) x) ≡ g ∷ drop i out
drop-set-cons out zero x g h k e = absurd (omega arith)
drop-set-cons out (suc j) x g h k e =
    ap (λ (m : ℕ). drop m (set out m x)) {x = suc j - 1} {y = j} (omega arith) ∙ drop-cons (set out j x) j 0 (omega (arith, length-set out j x))
    ∙ (λ t. (get_or-set_same out j x 0 k ∙ e) t ∷ drop-set-lt (suc j) out j x (omega arith) t)
