-- Four operands that are made one after another in four places.
use Rattle.std.proofs.Common.{◌≡◌, Bool, List, [], ◌∷◌, length, refl, sym, subst, slice_set, arith}
use Rattle.x86_values.specs.declared.Bits.{Bits}
use Rattle.x86_values.specs.declared.DispSize.{DispSize}
use Rattle.x86_values.specs.declared.Operand.{Operand}
use Rattle.instruction_parts.specs.declared.row_types.Row.{Row}
use Rattle.intel_words.specs.declared.words.IntelWords.{IntelWords}
use Rattle.intel_reader.specs.Candidate.{is_near_at, operand_from, operands_from, text_at}

-- four operands are those at the numbers 0 to 3
four : (ops : List Operand) → length ops ≡ 4 → (a b c d : Operand) × (ops ≡ a ∷ b ∷ c ∷ d ∷ [])
four (a ∷ b ∷ c ∷ d ∷ []) e = (a, b, c, d, refl)
four [] e = absurd (omega (arith, e))
four (a ∷ []) e = absurd (omega (arith, e))
four (a ∷ b ∷ []) e = absurd (omega (arith, e))
four (a ∷ b ∷ c ∷ []) e = absurd (omega (arith, e))
four (a ∷ b ∷ c ∷ d ∷ f ∷ ops) e = absurd (omega (arith, e))

-- four operands that are written one after another are all
four_set : (xs : List Operand) (a b c d : Operand) → length xs ≡ 4 → slice_set (slice_set (slice_set (slice_set xs 0 a) 1 b) 2 c) 3 d ≡ a ∷ b ∷ c ∷ d ∷ []
four_set xs a b c d h =
    let (p, q, r, s, is) = four xs h in
    let P : List Operand → Type 0 = λ ops. slice_set (slice_set (slice_set (slice_set ops 0 a) 1 b) 2 c) 3 d ≡ a ∷ b ∷ c ∷ d ∷ [] in
    subst P (sym is) refl

-- the operands of some words, each of which was made of its word in its place
pub operands_made : (row : Row) (words : IntelWords) (asize : Bits) (size : DispSize) (xs : List Operand) (a b c d : Operand) (j k m n : Bool) → length xs ≡ 4
    → j ≡ is_near_at row 0 → k ≡ is_near_at row 1 → m ≡ is_near_at row 2 → n ≡ is_near_at row 3
    → a ≡ operand_from j asize size (text_at words 0) → b ≡ operand_from k asize size (text_at words 1)
    → c ≡ operand_from m asize size (text_at words 2) → d ≡ operand_from n asize size (text_at words 3)
    → slice_set (slice_set (slice_set (slice_set xs 0 a) 1 b) 2 c) 3 d ≡ operands_from row words asize size
unfolding operands_from
operands_made row words asize size xs a b c d j k m n h jr kr mr nr ea eb ec ed =
    rw (four_set xs a b c d h) (rw (ea, eb, ec, ed) (rw (jr, kr, mr, nr) refl))
