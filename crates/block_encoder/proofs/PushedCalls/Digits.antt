-- The bytes of a return address: those of the immediate of PUSH, and those that MOV writes.
use Rattle.std.proofs.Common.{◌≡◌, ◌⊎◌, inl, inr, ℕ, ◌+◌, ◌-◌, ◌/◌, ◌%◌, ◌^◌, ◌<◌, ◌≤◌, true, List, [], ◌∷◌, ◌++◌, take, nat_lt, refl, ap, ◌∙◌, arith}
use Rattle.std.specs.Prelude.{if◌then◌else◌}
use Rattle.std.proofs.lemmas.Bool.{lt-ltb, ltb-true, ltb-false, cond_both}
use Rattle.x86_values.specs.declared.Bits.{Bits}
use Rattle.x86_values.specs.declared.Bits.TheVariants.{B16, B32, B64}
use Rattle.x86_values.specs.Wrapping.{width}
use Rattle.instruction_parts.specs.Sizes.{size_bytes}
use Rattle.plain_spelling.specs.Values.{low_bytes, is_extended_of}
use Rattle.move_goals.specs.MovedTargets.Facts.{DistanceFacts}
use Rattle.block_encoder.specs.PushedCalls.Pushes.{pushed_value}
use Rattle.block_encoder.specs.PushedCalls.Slots.{push_writes, high_writes, slot_after}
use Rattle.block_encoder.specs.PushedCalls.Facts.{pushed_bytes}

-- ---- numbers that agree modulo 2 ^ 32 have the same four low bytes

low-of-4 : (x y : ℕ) → x % 2 ^ 32 ≡ y % 2 ^ 32 → (x % 256 ≡ y % 256) × (x / 256 % 2 ^ 24 ≡ y / 256 % 2 ^ 24)
low-of-4 x y e = (omega (arith, e), omega (arith, e))

low-of-3 : (x y : ℕ) → x % 2 ^ 24 ≡ y % 2 ^ 24 → (x % 256 ≡ y % 256) × (x / 256 % 2 ^ 16 ≡ y / 256 % 2 ^ 16)
low-of-3 x y e = (omega (arith, e), omega (arith, e))

low-of-2 : (x y : ℕ) → x % 2 ^ 16 ≡ y % 2 ^ 16 → (x % 256 ≡ y % 256) × (x / 256 % 256 ≡ y / 256 % 256)
low-of-2 x y e = (omega (arith, e), omega (arith, e))

four : (a b c d i j k l : ℕ) → a ≡ i → b ≡ j → c ≡ k → d ≡ l → a ∷ b ∷ c ∷ d ∷ [] ≡ i ∷ j ∷ k ∷ l ∷ []
four a b c d i j k l p q r s = rw (p, q, r, s) refl

low-four : (x y : ℕ) → x % 2 ^ 32 ≡ y % 2 ^ 32 → low_bytes 4 x ≡ low_bytes 4 y
unfolding low_bytes
low-four x y e =
    let a = low-of-4 x y e in
    let b = low-of-3 (x / 256) (y / 256) a.1 in
    let c = low-of-2 (x / 256 / 256) (y / 256 / 256) b.1 in
    four (x % 256) (x / 256 % 256) (x / 256 / 256 % 256) (x / 256 / 256 / 256 % 256) (y % 256) (y / 256 % 256) (y / 256 / 256 % 256)
    (y / 256 / 256 / 256 % 256) a.0 b.0 c.0 c.1

-- ---- the immediate

-- the parts of the immediate of 64-bit mode
record IsLowHalf (back value : ℕ) : Type 0 where
  low : value % 2 ^ 32 ≡ back % 2 ^ 32
  below : value < 2 ^ 64
  signed : (value < 2 ^ 31) ⊎ (2 ^ 64 ≤ value + 2 ^ 31)

positive-half : (back : ℕ) → back % 2 ^ 32 < 2 ^ 31 → IsLowHalf back (back % 2 ^ 32)
positive-half back lt = record { low = omega arith; below = omega (arith, lt); signed = inl lt }

negative-half : (back : ℕ) → 2 ^ 31 ≤ back % 2 ^ 32 → IsLowHalf back (back % 2 ^ 32 + (2 ^ 64 - 2 ^ 32))
negative-half back le = record { low = omega arith; below = omega arith; signed = inr (omega (arith, le)) }

low-half : (back : ℕ) → IsLowHalf back (pushed_value B64 back)
unfolding pushed_value
low-half back =
    cond_both (nat_lt (back % 2 ^ 32) (2 ^ 31)) (back % 2 ^ 32) (back % 2 ^ 32 + (2 ^ 64 - 2 ^ 32)) (λ (v : ℕ). IsLowHalf back v)
    (λ t. positive-half back (ltb-true (back % 2 ^ 32) (2 ^ 31) t)) (λ f. negative-half back (ltb-false (back % 2 ^ 32) (2 ^ 31) f))

-- **its low bytes are those of the address**
pub low-bytes-of : (bits : Bits) (back : ℕ) → low_bytes (pushed_bytes bits) (pushed_value bits back) ≡ low_bytes (pushed_bytes bits) back
unfolding pushed_value
low-bytes-of B16 back = refl
low-bytes-of B32 back = refl
low-bytes-of B64 back = low-four (pushed_value B64 back) back (low-half back).low

-- **it is one that PUSH has**
pub pushed-fits : DistanceFacts → (bits : Bits) (back : ℕ) → back < 2 ^ width bits
    → is_extended_of (pushed_bytes bits) (width bits) (pushed_value bits back) ≡ true
unfolding pushed_value is_extended_of
pushed-fits distances B16 back below = rw (lt-ltb back (2 ^ 16) below) refl
pushed-fits distances B32 back below = rw (lt-ltb back (2 ^ 32) below) refl
pushed-fits distances B64 back below =
    let half = low-half back in
    distances.signed 4 (2 ^ 31) (pushed_value B64 back) refl half.below half.signed

-- a high half is one of 32 bits
pub high-fits : (back : ℕ) → back < 2 ^ 64 → is_extended_of 4 32 (back / 2 ^ 32) ≡ true
unfolding is_extended_of
high-fits back below = rw (lt-ltb (back / 2 ^ 32) (2 ^ 32) (omega (arith, below))) refl

-- ---- the top of the stack

first-four : (x : ℕ) → take 4 (low_bytes 8 x) ≡ low_bytes 4 x
unfolding low_bytes
first-four x = refl

two-halves : (x : ℕ) → low_bytes 4 x ++ low_bytes 4 (x / 256 / 256 / 256 / 256) ≡ low_bytes 8 x
unfolding low_bytes
two-halves x = refl

four-steps : (x : ℕ) → x / 2 ^ 32 ≡ x / 256 / 256 / 256 / 256
four-steps x =
    let a : x / 256 / 256 ≡ x / 65536 = omega arith in
    let b : x / 65536 / 256 / 256 ≡ x / 65536 / 65536 = omega arith in
    let c : x / 65536 / 65536 ≡ x / 2 ^ 32 = omega arith in
    rw (a, b, c) refl

-- **the top of the stack has the return address**
pub slot-is : (bits : Bits) (back : ℕ) → back < 2 ^ width bits → slot_after bits back ≡ low_bytes (size_bytes bits) back
unfolding pushed_value
slot-is B16 back below = refl
slot-is B32 back below = refl
slot-is B64 back below =
    ap (λ (bytes : List ℕ). bytes ++ high_writes back) (first-four (pushed_value B64 back) ∙ low-four (pushed_value B64 back) back (low-half back).low)
    ∙ (ap (λ (n : ℕ). low_bytes 4 back ++ low_bytes 4 n) (four-steps back) ∙ two-halves back)
