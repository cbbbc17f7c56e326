-- The reading at a decoder's position.
use Rattle.std.proofs.Common.{◌≡◌, ℕ, ◌<◌, true, List, [], ◌∷◌, length, Result, Ok, Err, refl, ap, ◌∙◌, subst, arith, inl}
use Rattle.x86_values.specs.declared.Bits.{Bits}
use Rattle.x86_values.specs.declared.Decoded.{Decoded}
use Rattle.x86_values.specs.Wrapping.{modulo_width}
use Rattle.x86_values.proofs.Wrapped.{twice}
use Rattle.instruction_parts.specs.declared.row_types.Row.{Row}
use Rattle.instruction_parts.specs.Front.{prefix_run, lead_front, long_front, within_15, front_of, is_open}
use Rattle.row_relation.specs.Spells.{Reading, IsReading}
use Rattle.decoder.specs.declared.DecodeError.{DecodeError}
use Rattle.decoder.specs.declared.DecodeError.TheVariants.{Invalid, TooShort}
use Rattle.decoder.specs.Answer.{reading_of}

-- a reading of the rest, at its wrapped address
pub reading_at : (table : List Row) (bits : Bits) (address x : ℕ) (rest bytes : List ℕ) (r : Reading) → address ≡ modulo_width bits x → rest ≡ bytes → IsReading table bits (modulo_width bits address) rest r → IsReading table bits (modulo_width bits x) bytes r
reading_at table bits address x rest bytes r a e h =
    let same : modulo_width bits address ≡ modulo_width bits x = ap (modulo_width bits) a ∙ twice bits x in
    subst (λ (n : ℕ). IsReading table bits n bytes r) same (subst (λ (xs : List ℕ). IsReading table bits (modulo_width bits address) xs r) e h)

no_bytes_are_open : (bits : Bits) → is_open (front_of bits []) ≡ true
unfolding front_of long_front prefix_run lead_front within_15
no_bytes_are_open bits = refl

-- no bytes are too short
pub no_bytes : (table : List Row) (bits : Bits) (ip : ℕ) (answer : Result Decoded DecodeError) (bytes : List ℕ) → length bytes ≡ 0 → IsReading table bits ip bytes (reading_of answer) → ((d : Decoded) → answer ≡ Ok d → 0 < d.len) → answer ≡ Err TooShort
no_bytes table bits ip (Ok d) bytes none h some = let n = some d refl in absurd (omega (arith, h.0))
no_bytes table bits ip (Err TooShort) bytes none h some = refl
no_bytes table bits ip (Err Invalid) bytes none h some =
    let nil : bytes ≡ [] = length_zero bytes none in
    absurd (h.ends_here (omega arith) (inl (ap (λ (xs : List ℕ). is_open (front_of bits xs)) nil ∙ no_bytes_are_open bits)))
  where
    length_zero : (xs : List ℕ) → length xs ≡ 0 → xs ≡ []
    length_zero [] e = refl
    length_zero (x ∷ xs) e = absurd (omega arith)
