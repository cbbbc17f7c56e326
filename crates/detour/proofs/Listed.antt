-- Lists that are made from a function of the index.
use Rattle.std.proofs.Common.{◌≡◌, ℕ, ◌+◌, List, [], ◌∷◌, ◌++◌, map, ap, sym, ◌∙◌, arith}
use Rattle.std.specs.List.{range_with_len}
use Rattle.std.proofs.lemmas.List.FromFn.{map-range_with_len_more}

-- one more value
pub one_listed : (f : ℕ → ℕ) (xs ys : List ℕ) (k x : ℕ) → xs ≡ map f (range_with_len 0 k) → ys ≡ xs ++ x ∷ [] → x ≡ f k
    → ys ≡ map f (range_with_len 0 (k + 1))
one_listed f xs ys k x old last is =
    last
    ∙ (ap (λ (zs : List ℕ). zs ++ x ∷ []) old
    ∙ (ap (λ (y : ℕ). map f (range_with_len 0 k) ++ y ∷ []) is ∙ sym (map-range_with_len_more f 0 k k (omega arith))))
