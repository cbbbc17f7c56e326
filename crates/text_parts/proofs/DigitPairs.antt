-- The table of the digits of each byte.
use Rattle.std.proofs.Common.{◌≡◌, ℕ, zero, suc, ◌+◌, List, [], ◌∷◌, slice_get, refl, arith, ap, sym, ◌∙◌}
use Rattle.std.specs.Prelude.{Some}
use Rattle.text_parts.specs.Numbers.{hex_digit}
use Rattle.text_parts.specs.DigitPairs.{digit_pair, pairs}

-- the digits from a byte on
unfoldable digits_from : ℕ → ℕ → List (List ℕ)
digits_from zero byte = []
digits_from (suc count) byte = digit_pair byte ∷ digits_from count (suc byte)

-- each position of the table holds the digits of its number
pairs-are : pairs ≡ digits_from 256 0
unfolding pairs digits_from digit_pair hex_digit
pairs-are = refl

-- what stands at a position of the digits from a byte on
digits-at : (count byte position : ℕ) (x : List ℕ) → slice_get (digits_from count byte) position ≡ Some x → x ≡ digit_pair (byte + position)
unfolding digits_from
digits-at zero byte position x e = cc
digits-at (suc count) byte zero x e = let same : byte + 0 ≡ byte = omega arith in rw same cc
digits-at (suc count) byte (suc position) x e =
    let same : byte + suc position ≡ suc byte + position = omega arith in rw same (digits-at count (suc byte) position x e)

-- what stands at a position of the table
pub pair-at : (byte : ℕ) (x : List ℕ) → slice_get pairs byte ≡ Some x → x ≡ digit_pair byte
pair-at byte x e =
    let same : 0 + byte ≡ byte = omega arith in
    rw same at (digits-at 256 0 byte x (ap (λ (xs : List (List ℕ)). slice_get xs byte) (sym pairs-are) ∙ e))
