-- Four operands that are read one after another into four places.
use Rattle.std.proofs.Common.{◌≡◌, ℕ, List, [], ◌∷◌, Some, length, refl, sym, subst, slice_set, arith}
use Rattle.intel_words.specs.declared.words.OperandText.{OperandText}
use Rattle.intel_words.specs.Scanning.{token, next_operand}
use Rattle.intel_words.specs.ReadAddresses.{operand_in}
use Rattle.intel_words.specs.ReadWords.{four as four_read, operands_in}
use Rattle.intel_words.specs.Pieces.{operands_of_pieces}

-- four operands are those at the numbers 0 to 3
four : (ops : List OperandText) → length ops ≡ 4 → (a b c d : OperandText) × (ops ≡ a ∷ b ∷ c ∷ d ∷ [])
four (a ∷ b ∷ c ∷ d ∷ []) e = (a, b, c, d, refl)
four [] e = absurd (omega (arith, e))
four (a ∷ []) e = absurd (omega (arith, e))
four (a ∷ b ∷ []) e = absurd (omega (arith, e))
four (a ∷ b ∷ c ∷ []) e = absurd (omega (arith, e))
four (a ∷ b ∷ c ∷ d ∷ x ∷ xs) e = absurd (omega (arith, e))

-- four operands that are written one after another are all
four_set : (xs : List OperandText) (a b c d : OperandText) → length xs ≡ 4 → slice_set (slice_set (slice_set (slice_set xs 0 a) 1 b) 2 c) 3 d ≡ a ∷ b ∷ c ∷ d ∷ []
four_set xs a b c d h =
    let (p, q, r, s, is) = four xs h in
    let P : List OperandText → Type 0 = λ ops. slice_set (slice_set (slice_set (slice_set ops 0 a) 1 b) 2 c) 3 d ≡ a ∷ b ∷ c ∷ d ∷ [] in
    subst P (sym is) refl

-- the operands of a text, each of which was read from its part and written to its place
pub operands_read : (text second third fourth t u v w : List ℕ) (xs : List OperandText) (a b c d : OperandText) → length xs ≡ 4
    → t ≡ token text → second ≡ next_operand text → u ≡ token second → third ≡ next_operand second → v ≡ token third → fourth ≡ next_operand third → w ≡ token fourth
    → operand_in t ≡ Some a → operand_in u ≡ Some b → operand_in v ≡ Some c → operand_in w ≡ Some d
    → operands_in text ≡ Some (slice_set (slice_set (slice_set (slice_set xs 0 a) 1 b) 2 c) 3 d)
unfolding operands_in four_read
operands_read text second third fourth t u v w xs a b c d h e0 n1 e1 n2 e2 n3 e3 o0 o1 o2 o3 =
    let at0 : operand_in (token text) ≡ Some a = cc (e0, o0) in
    let at1 : operand_in (token (next_operand text)) ≡ Some b = cc (n1, e1, o1) in
    let at2 : operand_in (token (next_operand (next_operand text))) ≡ Some c = cc (n1, n2, e2, o2) in
    let at3 : operand_in (token (next_operand (next_operand (next_operand text)))) ≡ Some d = cc (n1, n2, n3, e3, o3) in
    rw at0 (rw at1 (rw at2 (rw at3 (rw (four_set xs a b c d h) refl))))

-- the operands of the pieces of a text, each of which was written to its place
pub pieces_read : (p q r s : List ℕ) (xs : List OperandText) (a b c d : OperandText) → length xs ≡ 4
    → operand_in p ≡ Some a → operand_in q ≡ Some b → operand_in r ≡ Some c → operand_in s ≡ Some d
    → operands_of_pieces p q r s ≡ Some (slice_set (slice_set (slice_set (slice_set xs 0 a) 1 b) 2 c) 3 d)
unfolding operands_of_pieces four_read
pieces_read p q r s xs a b c d h o0 o1 o2 o3 = rw o0 (rw o1 (rw o2 (rw o3 (rw (four_set xs a b c d h) refl))))
