-- The first line of some bytes.
use Rattle.std.proofs.Common.{◌≡◌, ℕ, suc, zero, ◌<◌, ◌≤◌, List, [], ◌∷◌, length, get_or, take, drop, sym, ap, add-one, ◌∙◌, arith, false}
use Rattle.std.specs.Prelude.{nat_eq}
use Rattle.std.proofs.Math.Seq.{take-length, drop-length}
use Rattle.std.proofs.lemmas.List.{drop-drop}
use Rattle.std.proofs.lemmas.Bool.Decides.{nat_tests}
use Rattle.assembly_text.specs.Lines.{with_byte_in_front, lines_in}

-- the first so many bytes hold no line feed
abbrev pub IsUnended : List ℕ → ℕ → Type 0
IsUnended bytes k = (j : ℕ) → j < k → (get_or bytes j 0 ≡ 10 → ⊥)

-- a byte that is no line feed belongs to the first line
one_more : (c : ℕ) (bytes : List ℕ) → (c ≡ 10 → ⊥) → lines_in (c ∷ bytes) ≡ with_byte_in_front c (lines_in bytes)
unfolding lines_in
one_more c bytes other = let e : nat_eq c 10 ≡ false = grind (arith, nat_tests) in rw e

-- the first line that a line feed ends
pub first_ended : (bytes : List ℕ) (k : ℕ) → k < length bytes → IsUnended bytes k → get_or bytes k 0 ≡ 10 →
    lines_in bytes ≡ take k bytes ∷ lines_in (drop (suc k) bytes)
unfolding lines_in with_byte_in_front
first_ended [] k lt none is = absurd (omega arith)
first_ended (c ∷ bytes) zero lt none is = let e : c ≡ 10 = is in rw e
first_ended (c ∷ bytes) (suc k) lt none is =
    let head = one_more c bytes (none 0 (omega arith)) in
    let rest = first_ended bytes k (omega arith) (λ j below. none (suc j) (omega arith)) is in
    head ∙ ap (with_byte_in_front c) rest

-- the last line, which no line feed ends
pub first_open : (c : ℕ) (bytes : List ℕ) → IsUnended (c ∷ bytes) (length (c ∷ bytes)) → lines_in (c ∷ bytes) ≡ (c ∷ bytes) ∷ []
unfolding lines_in with_byte_in_front
first_open c [] none = one_more c [] (none 0 (omega arith))
first_open c (d ∷ bytes) none =
    one_more c (d ∷ bytes) (none 0 (omega arith)) ∙ ap (with_byte_in_front c) (first_open d bytes (λ j below. none (suc j) (omega arith)))

-- ---- cutting bytes

-- bytes that are cut behind their first line feed
pub cut_line : (bytes line rest behind : List ℕ) (k : ℕ) → k < length bytes → IsUnended bytes k → get_or bytes k 0 ≡ 10 →
    line ≡ take k bytes → rest ≡ drop k bytes → behind ≡ drop 1 rest → lines_in bytes ≡ line ∷ lines_in behind
cut_line bytes line rest behind k lt none is line_is rest_is behind_is =
    let joint : behind ≡ drop (suc k) bytes = behind_is ∙ (ap (λ (xs : List ℕ). drop 1 xs) rest_is ∙ (drop-drop 1 k bytes ∙ ap (λ (n : ℕ). drop n bytes) (add-one k))) in
    first_ended bytes k lt none is ∙ (ap (λ (xs : List ℕ). xs ∷ lines_in (drop (suc k) bytes)) (sym line_is) ∙ ap (λ (xs : List ℕ). line ∷ lines_in xs) (sym joint))

-- bytes without a line feed, cut behind the last of them
pub cut_end : (bytes line behind : List ℕ) (k : ℕ) → 0 < length bytes → IsUnended bytes k → length bytes ≤ k →
    line ≡ take (length bytes) bytes → behind ≡ drop (length bytes) bytes → lines_in bytes ≡ line ∷ lines_in behind
unfolding lines_in
cut_end [] line behind k some none all line_is behind_is = absurd (omega arith)
cut_end (c ∷ bytes) line behind k some none all line_is behind_is =
    let whole : line ≡ c ∷ bytes = line_is ∙ take-length (c ∷ bytes) in
    let empty : behind ≡ [] = behind_is ∙ drop-length (c ∷ bytes) in
    rw (whole, empty) (first_open c bytes (λ j below. none j (omega arith)))
