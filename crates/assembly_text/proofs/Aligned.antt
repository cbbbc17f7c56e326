-- The word of an alignment.
use Rattle.std.proofs.Common.{◌≡◌, ℕ, Bool, true, false, List, length, refl, ap, sym, ◌∙◌, map}
use Rattle.std.specs.Prelude.{bytes_eq, codes}
use Rattle.std.proofs.lemmas.List.{length-map}
use Rattle.std.proofs.lemmas.Slice.Eq.{bytes_eq-Decides}
use Rattle.assembly_text.specs.Lines.{lower_byte}
use Rattle.assembly_text.specs.Padding.{is_align}

not_true : (b : Bool) → (b ≡ true → ⊥) → b ≡ false
not_true true h = absurd (h refl)
not_true false h = refl

-- a word of another length is not that of an alignment
pub other_length : (word : List ℕ) → (length word ≡ 5 → ⊥) → is_align word ≡ false
unfolding is_align
other_length word h = not_true (bytes_eq (map lower_byte word) (codes "align"))
    (λ e. h (sym (length-map word lower_byte) ∙ ap (λ (l : List ℕ). length l) ((bytes_eq-Decides (map lower_byte word) (codes "align")).0 e)))
