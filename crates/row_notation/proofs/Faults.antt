-- Where an answer that is right leaves bytes, the text before them is the longest that goes along with some shape's text.
use Rattle.std.proofs.Common.{◌≡◌, inl, inr, ℕ, zero, suc, ◌+◌, ◌<◌, ◌≤◌, List, [], ◌∷◌, ◌++◌, length, take, Err, sym, subst, arith}
use Rattle.instruction_parts.specs.declared.row_types.RowShape.{RowShape}
use Rattle.row_notation.specs.Texts.{IsFaultAt}
use Rattle.row_notation.proofs.Languages.{Language, IsRight, behind_byte}
use Rattle.row_notation.proofs.Grammar.{all_texts}
use Rattle.row_notation.proofs.Parts.{sound}
use Rattle.row_notation.proofs.Complete.{complete}

-- the text begins a text of the language
abbrev pub Begins : Language → List ℕ → Type 0
Begins L text = (more : List ℕ) × ((s : RowShape) × L (text ++ more) s)

-- how far a text goes along with the language
pub record Fault (L : Language) (text : List ℕ) (at : ℕ) : Type 0 where
  pub within : at ≤ length text
  pub begins : Begins L (take at text)
  pub longest : at < length text → ¬ Begins L (take (at + 1) text)
  pub none : (s : RowShape) → ¬ L text s

one-more : (n : ℕ) → suc n + 1 ≡ suc (n + 1)
one-more n = omega arith

fault-of : (L : Language) (text : List ℕ) (left at : ℕ) → at + left ≡ length text → IsRight L text (Err left) → Fault L text at
fault-of L [] left at e h =
    let at-0 : at ≡ 0 = omega (arith, h.0) in
    subst (λ n. Fault L [] n) (sym at-0) (record {
      within = omega arith;
      begins = (h.1.0, (h.1.1.0, h.1.1.1));
      longest = λ lt. absurd (omega arith);
      none = h.2;
    })
fault-of L (c ∷ text) left at e (inl h) =
    let at-0 : at ≡ 0 = omega (arith, h.0) in
    subst (λ n. Fault L (c ∷ text) n) (sym at-0) (record {
      within = omega arith;
      begins = (h.1.0, (h.1.1.0, h.1.1.1));
      longest = λ _ b. h.2 b.0 b.1.0 b.1.1;
      none = λ s m. h.2 text s m;
    })
fault-of L (c ∷ text) left zero e (inr h) = absurd (omega (arith, h.0))
fault-of L (c ∷ text) left (suc at) e (inr h) =
    let f : Fault (behind_byte c L) text at = fault-of (behind_byte c L) text left at (omega arith) h.1 in
    record {
      within = omega (arith, f.within);
      begins = f.begins;
      longest = λ lt b. f.longest (omega arith) (subst (λ n. Begins L (take n (c ∷ text))) (one-more at) b);
      none = f.none;
    }

-- the same of the texts of shapes
pub fault : (text : List ℕ) (left at : ℕ) → at + left ≡ length text → IsRight all_texts text (Err left) → IsFaultAt text at
fault text left at e h =
    let f : Fault all_texts text at = fault-of all_texts text left at e h in
    record {
      within = f.within;
      begins = (f.begins.0, (f.begins.1.0, sound (take at text ++ f.begins.0) f.begins.1.0 f.begins.1.1));
      longest = λ lt b. f.longest lt (b.0, (b.1.0, complete (take (at + 1) text ++ b.0) b.1.0 b.1.1));
      none = λ s t. f.none s (complete text s t);
    }
