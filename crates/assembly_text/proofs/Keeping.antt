-- Texts that were read before.
use Rattle.std.proofs.Common.{◌≡◌, ℕ, zero, suc, ◌<◌, true, List, [], ◌∷◌, ◌++◌, length, get_or, set, Option, Some, None, sym, subst, ◌∙◌}
use Rattle.std.specs.Prelude.{bytes_eq}
use Rattle.std.proofs.lemmas.Slice.Eq.{bytes_eq-Decides}
use Rattle.std.proofs.lemmas.List.{get_or_read}
use Rattle.x86_values.specs.declared.Bits.{Bits}
use Rattle.assembly_text.specs.declared.code.Code.{Code}
use Rattle.assembly_text.specs.declared.code.PreparedCode.{PreparedCode}
use Rattle.assembly_text.specs.declared.kept.KeptText.{KeptText}
use Rattle.assembly_text.specs.declared.kept.SpelledText.{SpelledText}
use Rattle.assembly_text.specs.Kept.{AreKept, AreSpelled, IsSpelled, IsSpelledText}
use Rattle.assembly_text.specs.Known.{IsKept}

-- a text of other names was read too
pub read_as : (bits same : Bits) (base address : ℕ) (text words : List ℕ) (read : PreparedCode) → bits ≡ same → base ≡ address → text ≡ words
    → IsKept bits base text read → IsKept same address words read
read_as bits same base address text words read bits_is base_is text_is h =
    subst (λ (b : Bits). IsKept b address words read) bits_is
    (subst (λ (n : ℕ). IsKept bits n words read) base_is (subst (λ (x : List ℕ). IsKept bits base x read) text_is h))

-- one place more with nothing, for a text that is read at the address 0
pub kept_more : (bits : Bits) (texts : List (Option KeptText)) → AreKept bits texts → AreKept bits (texts ++ None ∷ [])
kept_more bits [] h zero = tt
kept_more bits [] h (suc k) = tt
kept_more bits (x ∷ texts) h zero = h zero
kept_more bits (x ∷ texts) h (suc k) = kept_more bits texts (λ j. h (suc j)) k

-- one place more with nothing, for a text in lower case
pub spelled_more : (bits : Bits) (base : ℕ) (spelled : List (Option SpelledText)) → AreSpelled bits base spelled → AreSpelled bits base (spelled ++ None ∷ [])
spelled_more bits base [] h zero = tt
spelled_more bits base [] h (suc k) = tt
spelled_more bits base (x ∷ spelled) h zero = h zero
spelled_more bits base (x ∷ spelled) h (suc k) = spelled_more bits base spelled (λ j. h (suc j)) k

-- another text in lower case at a place
pub spelled_with : (bits : Bits) (base : ℕ) (spelled : List (Option SpelledText)) (at : ℕ) (line : Option SpelledText) → IsSpelledText bits base line
    → AreSpelled bits base spelled → AreSpelled bits base (set spelled at line)
spelled_with bits base [] at line is h k = tt
spelled_with bits base (x ∷ spelled) zero line is h zero = is
spelled_with bits base (x ∷ spelled) zero line is h (suc k) = h (suc k)
spelled_with bits base (x ∷ spelled) (suc at) line is h zero = h zero
spelled_with bits base (x ∷ spelled) (suc at) line is h (suc k) = spelled_with bits base spelled at line is (λ j. h (suc j)) k

-- a text of other names was read too
pub spelled_as : (bits same : Bits) (base address : ℕ) (low words : List ℕ) (code : Code) → bits ≡ same → base ≡ address → low ≡ words
    → IsSpelled bits base low code → IsSpelled same address words code
spelled_as bits same base address low words code bits_is base_is low_is h =
    subst (λ (b : Bits). IsSpelled b address words code) bits_is
    (subst (λ (n : ℕ). IsSpelled bits n words code) base_is (subst (λ (x : List ℕ). IsSpelled bits base x code) low_is h))

-- a text in lower case that is kept stands for what is kept with it
pub spelled_line : (bits same : Bits) (base address : ℕ) (spelled : List (Option SpelledText)) (at : ℕ) (found : Option SpelledText) (line : SpelledText) (low : List ℕ)
    → AreSpelled same address spelled → at < length spelled → found ≡ get_or spelled at found → found ≡ Some line
    → same ≡ bits → address ≡ base → bytes_eq line.text.items low ≡ true → IsSpelled bits base low line.code
spelled_line bits same base address spelled at found line low h lt read is bits_is base_is low_is =
    let there : get_or spelled at None ≡ Some line = sym (get_or_read spelled at found lt read None) ∙ is in
    let known : IsSpelled same address line.text.items line.code = subst (λ (o : Option SpelledText). IsSpelledText same address o) there (h at) in
    spelled_as same bits address base line.text.items low line.code bits_is base_is ((bytes_eq-Decides line.text.items low).0 low_is) known
