-- Lists that grow by one element at a time.
use Rattle.std.proofs.Common.{◌≡◌, ℕ, ◌+◌, ◌<◌, List, [], ◌∷◌, ◌++◌, length, map, take, get_or, replicate, Option, Some, sym, ap, ◌∙◌, append_assoc}
use Rattle.std.proofs.lemmas.List.{map_more, replicate-append-replicate}

-- one more of the same
pub replicate_more : {X : Type 0} (ys xs : List X) (k : ℕ) (v : X) → ys ≡ xs ++ replicate k v → ys ++ v ∷ [] ≡ xs ++ replicate (k + 1) v
replicate_more {X} ys xs k v are =
    ap (λ (zs : List X). zs ++ v ∷ []) are ∙ (append_assoc xs (replicate k v) (v ∷ []) ∙ ap (λ (zs : List X). xs ++ zs) (replicate-append-replicate k 1 v))

-- one more byte
pub bytes_more : (ys xs : List (Option ℕ)) (bytes : List ℕ) (k : ℕ) → k < length bytes → ys ≡ xs ++ map Some (take k bytes)
    → ys ++ Some (get_or bytes k 0) ∷ [] ≡ xs ++ map Some (take (k + 1) bytes)
bytes_more ys xs bytes k lt are =
    ap (λ (zs : List (Option ℕ)). zs ++ Some (get_or bytes k 0) ∷ []) are
    ∙ (append_assoc xs (map Some (take k bytes)) (Some (get_or bytes k 0) ∷ [])
    ∙ ap (λ (zs : List (Option ℕ)). xs ++ zs) (sym (map_more Some bytes k 0 lt)))
