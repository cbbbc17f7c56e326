-- Where labels stand.
use Rattle.std.proofs.Common.{◌≡◌, ℕ, ◌+◌, ◌≤◌, List, [], ◌∷◌, ◌++◌, length, sym, ap, ◌∙◌, arith, inl, inr, append-nil, append_assoc}
use Rattle.std.specs.Prelude.{nat_eq}
use Rattle.std.proofs.lemmas.Bool.{cases_Bool}
use Rattle.std.proofs.lemmas.List.{length-take}
use Rattle.std.proofs.lemmas.List.Sums.{prefix_len-le-length}
use Rattle.assembly_text.specs.declared.text_labels.LabelLine.{LabelLine}
use Rattle.assembly_text.specs.TextLabels.{label_at, labels_at}
use Rattle.assembly_text.specs.Lines.{is_blank, code_len, code_of, shown_column, lines_in, with_byte_in_front}

-- what a line shows begins in it, or right behind it
pub shown_within : (line : List ℕ) → shown_column line ≤ length line + 1
shown_within line =
    let blanks = prefix_len-le-length is_blank (code_of line) in
    let code = length-take (code_len 0 line) line in
    grind (arith)

-- how many bytes some lines have with a line feed behind each
abbrev pub total : List (List ℕ) → ℕ
total [] = 0
total (line ∷ lines) = length line + 1 + total lines

-- a byte in front of a line
front_total : (c : ℕ) (lines : List (List ℕ)) (n : ℕ) → total lines ≤ n + 1 → total (with_byte_in_front c lines) ≤ n + 2
unfolding with_byte_in_front
front_total c [] n few = omega arith
front_total c (line ∷ lines) n few = omega arith

-- lines have no more bytes than their text, and a line feed
pub total_within : (text : List ℕ) → total (lines_in text) ≤ length text + 1
unfolding lines_in
total_within [] = omega arith
total_within (c ∷ text) =
    let few = total_within text in
    let more = front_total c (lines_in text) (length text) few in
    elim (cases_Bool (nat_eq c 10)) [
      | inl e ↦ rw e (omega (arith, few))
      | inr e ↦ rw e (omega (arith, more))
    ]

-- no label stands where there is no line
pub labels_end : (rest : List ℕ) (number offset : ℕ) (found : List LabelLine) → length rest ≤ 0 → found ++ labels_at number offset (lines_in rest) ≡ found
unfolding labels_at lines_in
labels_end [] number offset found none = append-nil found
labels_end (c ∷ rest) number offset found none = absurd (omega arith)

-- the label of the first line stands before those of the others
pub labels_step : (rest line behind : List ℕ) (number offset : ℕ) (found : List LabelLine) → lines_in rest ≡ line ∷ lines_in behind →
    found ++ labels_at number offset (lines_in rest) ≡ (found ++ label_at number offset line) ++ labels_at (number + 1) (offset + (length line + 1)) (lines_in behind)
unfolding labels_at
labels_step rest line behind number offset found are =
    ap (λ (ls : List (List ℕ)). found ++ labels_at number offset ls) are
    ∙ sym (append_assoc found (label_at number offset line) (labels_at (number + 1) (offset + (length line + 1)) (lines_in behind)))
