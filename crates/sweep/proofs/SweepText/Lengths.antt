-- How long the parts of a line are.
use Rattle.std.proofs.Common.{◌≡◌, ℕ, ◌*◌, List, [], ◌∷◌, ◌++◌, length, drop, replicate, ap, ◌∙◌, append_assoc}
use Rattle.std.proofs.lemmas.List.{drop-replicate}
use Rattle.hex.specs.Hex.{encode_lower}
use Rattle.sweep.specs.SweepText.Listing.{byte_column}

-- the parts of a line, appended one behind another, are the line
pub line_parts : (out address column text : List ℕ) →
    (((((out ++ address) ++ 32 ∷ []) ++ column) ++ 32 ∷ []) ++ text) ++ 10 ∷ []
    ≡ out ++ (address ++ (32 ∷ (column ++ (32 ∷ (text ++ 10 ∷ [])))))
line_parts out address column text =
    rw (
      append_assoc (((((out ++ address) ++ 32 ∷ []) ++ column) ++ 32 ∷ [])) text (10 ∷ []),
      append_assoc ((((out ++ address) ++ 32 ∷ []) ++ column)) (32 ∷ []) (text ++ 10 ∷ []),
      append_assoc (((out ++ address) ++ 32 ∷ [])) column (32 ∷ (text ++ 10 ∷ [])),
      append_assoc (out ++ address) (32 ∷ []) (column ++ (32 ∷ (text ++ 10 ∷ []))),
      append_assoc out address (32 ∷ (column ++ (32 ∷ (text ++ 10 ∷ [])))),
    )

-- the parts of an instruction's line, appended one behind another, are the line
pub two_parts : (out address text : List ℕ) →
    (((out ++ address) ++ 32 ∷ []) ++ text) ++ 10 ∷ [] ≡ out ++ (address ++ (32 ∷ (text ++ 10 ∷ [])))
two_parts out address text =
    rw (
      append_assoc ((out ++ address) ++ 32 ∷ []) text (10 ∷ []),
      append_assoc (out ++ address) (32 ∷ []) (text ++ 10 ∷ []),
      append_assoc out address (32 ∷ (text ++ 10 ∷ [])),
    )

-- digits written over the first of 30 spaces are the byte column
pub column_is : (bytes digits : List ℕ) → digits ≡ encode_lower bytes → digits ++ drop (2 * length bytes) (replicate 30 32) ≡ byte_column bytes
unfolding byte_column
column_is bytes digits e =
    ap (λ (xs : List ℕ). xs ++ drop (2 * length bytes) (replicate 30 32)) e
    ∙ ap (λ (xs : List ℕ). encode_lower bytes ++ xs) (drop-replicate (2 * length bytes) 30 32)

-- the parts of what an instruction does, appended one behind another, are its text
pub info_parts : (out flow first second third fourth memory target operand : List ℕ) →
    (((((((out ++ flow) ++ first) ++ second) ++ third) ++ fourth) ++ memory) ++ target) ++ operand
    ≡ out ++ (((((((flow ++ first) ++ second) ++ third) ++ fourth) ++ memory) ++ target) ++ operand)
info_parts out flow first second third fourth memory target operand = simp append_assoc
