-- Texts without a prefix.
use Rattle.std.proofs.Common.{◌≡◌, ℕ, List, [], ◌++◌, ap, ◌∙◌}
use Rattle.assembly_text.specs.Names.{prefix_of, first_word, with_space, unless_prefix, behind_prefix, named_text, stem, ending, head_text}

-- where nothing is passed over and nothing stands in front, the rest is all
joined : (front behind rest : List ℕ → List ℕ) (text : List ℕ) → behind text ≡ text → front text ≡ []
    → front text ++ (front (behind text) ++ (front (behind (behind text)) ++ rest (behind (behind (behind text))))) ≡ rest text
joined front behind rest text same none = rw (same, same, same, none)

-- nothing stands behind a prefix that is not there
same_text : (text : List ℕ) → prefix_of (first_word text) ≡ [] → behind_prefix text ≡ text
unfolding unless_prefix
same_text text none = ap (λ (p : List ℕ). unless_prefix p text) none

-- a text without a prefix begins with its name
pub unprefixed : (text : List ℕ) → prefix_of (first_word text) ≡ [] → named_text text ≡ text
unprefixed text none =
    let same = same_text text none in
    ap (λ (x : List ℕ). behind_prefix (behind_prefix x)) same ∙ (ap (λ (x : List ℕ). behind_prefix x) same ∙ same)

-- which is all that the printer writes in front of the operands
pub unprefixed_head : (text : List ℕ) → prefix_of (first_word text) ≡ [] → head_text text ≡ stem (first_word text) ++ ending (first_word text)
unfolding with_space
unprefixed_head text none =
    joined (λ x. with_space (prefix_of (first_word x))) (λ x. behind_prefix x) (λ x. stem (first_word x) ++ ending (first_word x)) text
    (same_text text none) (ap (λ (p : List ℕ). with_space p) none)
