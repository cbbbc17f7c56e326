-- Names that the printer writes as they stand.
use Rattle.std.proofs.Common.{◌≡◌, ℕ, List, [], ◌++◌, length, take, drop, ap, ◌∙◌, append-nil}
use Rattle.std.proofs.Math.Seq.{take-length, drop-length}
use Rattle.assembly_text.specs.Names.{carry_condition, condition, before_condition, plain_name, stem, ending}

-- a name without a condition
pub whole_name : (word : List ℕ) → before_condition word ≡ length word → plain_name word ≡ word → stem word ++ ending word ≡ word
unfolding condition carry_condition
whole_name word all plain =
    let front : take (before_condition word) word ≡ word = ap (λ (n : ℕ). take n word) all ∙ take-length word in
    let back : drop (before_condition word) word ≡ [] = ap (λ (n : ℕ). drop n word) all ∙ drop-length word in
    let first : stem word ≡ word = ap (λ (x : List ℕ). plain_name x) front ∙ plain in
    let last : ending word ≡ [] = ap (λ (x : List ℕ). condition x) back in
    ap (λ (x : List ℕ). x ++ ending word) first ∙ (ap (λ (x : List ℕ). word ++ x) last ∙ append-nil word)
