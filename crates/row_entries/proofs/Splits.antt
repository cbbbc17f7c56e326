-- The pieces of a text: the first ends at the first separator, and the others are those of what stands behind it.
use Rattle.std.proofs.Common.{◌≡◌, ℕ, ◌+◌, ◌==◌, true, false, if◌then◌else◌, List, [], ◌∷◌, refl, ap, take, suc, arith}
use Rattle.row_entries.specs.Text.{front_len, text_front, text_behind}
use Rattle.row_entries.specs.Words.{split, onto}

-- one byte before a text whose pieces are known
pub onto_front : (c : ℕ) (text : List ℕ) (separator : ℕ) → onto c (split text separator) ≡ (c ∷ text_front text separator) ∷ split (text_behind text separator) separator
unfolding split front_len text_behind
onto_front c [] separator = refl
onto_front c (d ∷ text) separator =
    elim (d == separator) as (λ t.
    onto c (if t then [] ∷ split text separator else onto d (split text separator))
    ≡ (c ∷ take (if t then 0 else 1 + front_len text separator) (d ∷ text)) ∷ split (if t then text else text_behind text separator) separator) [
      | true ↦ refl
      | false ↦
          let e : 1 + front_len text separator ≡ suc (front_len text separator) = omega arith in
          rw e (ap (onto c) (onto_front d text separator))
    ]

-- a text is its front up to the first separator, and the parts behind it
pub split_front : (c : ℕ) (text : List ℕ) (separator : ℕ) → split (c ∷ text) separator ≡ text_front (c ∷ text) separator ∷ split (text_behind (c ∷ text) separator) separator
unfolding split front_len text_behind
split_front c text separator =
    elim (c == separator) as (λ t.
    (if t then [] ∷ split text separator else onto c (split text separator))
    ≡ take (if t then 0 else 1 + front_len text separator) (c ∷ text) ∷ split (if t then text else text_behind text separator) separator) [
      | true ↦ refl
      | false ↦
          let e : 1 + front_len text separator ≡ suc (front_len text separator) = omega arith in
          rw e (onto_front c text separator)
    ]
