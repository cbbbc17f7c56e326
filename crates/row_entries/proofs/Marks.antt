-- The marks of a text: those of its first word, then those of what stands behind it.
use Rattle.std.proofs.Common.{◌≡◌, ℕ, ◌<◌, List, [], ◌∷◌, length, Some, refl, arith}
use Rattle.row_entries.specs.declared.entry.Entry.{Entry}
use Rattle.row_entries.specs.Text.{text_front, text_behind}
use Rattle.row_entries.specs.Words.{value_among, mark_words, split}
use Rattle.row_entries.specs.Entries.{◌>>=◌, with_mark, with_marks}
use Rattle.row_entries.proofs.Splits.{split_front}

-- a text without marks adds none
pub marks_none : (e : Entry) (text : List ℕ) → length text < 1 → with_marks e (split text 32) ≡ Some e
unfolding with_marks split
marks_none e [] h = refl
marks_none e (c ∷ text) h = absurd (omega arith)

-- a mark is added before those that follow
pub marks_first : (e : Entry) (text : List ℕ) → 0 < length text
    → with_marks e (split text 32)
    ≡ (value_among mark_words (text_front text 32) >>= (λ m. with_mark e m >>= (λ marked. with_marks marked (split (text_behind text 32) 32))))
unfolding with_marks
marks_first e [] h = absurd (omega arith)
marks_first e (c ∷ text) h = rw (split_front c text 32) refl
