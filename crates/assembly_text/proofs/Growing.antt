-- Lists that grow at their end.
use Rattle.std.proofs.Common.{◌≡◌, ℕ, suc, ◌+◌, ◌-◌, ◌<◌, ◌≤◌, List, [], ◌∷◌, ◌++◌, replicate, ap, ◌∙◌, arith, append_assoc, append-nil}
use Rattle.std.proofs.lemmas.List.{replicate-append-replicate}
use Rattle.code_assembler.specs.Finished.{AssembledState, label_address}
use Rattle.std.specs.Prelude.{unwrap_or}
use Rattle.assembly_text.specs.Padding.{repeated}
use Rattle.assembly_text.specs.Rounds.{places_from}

-- one more of the same
pub replicate_more : {X : Type 0} (ys xs : List X) (k : ℕ) (v : X) → ys ≡ xs ++ replicate k v → ys ++ v ∷ [] ≡ xs ++ replicate (k + 1) v
replicate_more {X} ys xs k v are =
    ap (λ (zs : List X). zs ++ v ∷ []) are ∙ (append_assoc xs (replicate k v) (v ∷ []) ∙ ap (λ (zs : List X). xs ++ zs) (replicate-append-replicate k 1 v))

-- some bytes once more
pub repeated_more : (out bytes : List ℕ) (count k : ℕ) → k < count
    → (out ++ bytes) ++ repeated (count - (k + 1)) bytes ≡ out ++ repeated (count - k) bytes
unfolding repeated
repeated_more out bytes count k lt =
    let e : count - k ≡ suc (count - (k + 1)) = omega arith in
    rw e (append_assoc out bytes (repeated (count - (k + 1)) bytes))

-- and no more
pub repeated_end : (out bytes : List ℕ) (count k : ℕ) → count ≤ k → out ++ repeated (count - k) bytes ≡ out
unfolding repeated
repeated_end out bytes count k le = let e : count - k ≡ 0 = omega arith in rw e (append-nil out)

-- the address of one label more
pub place_more : (a : AssembledState) (base : ℕ) (out : List ℕ) (count k : ℕ) → k < count
    → (out ++ unwrap_or (label_address a k) base ∷ []) ++ places_from a base (k + 1) (count - (k + 1)) ≡ out ++ places_from a base k (count - k)
unfolding places_from
place_more a base out count k lt =
    let e : count - k ≡ suc (count - (k + 1)) = omega arith in
    rw e (append_assoc out (unwrap_or (label_address a k) base ∷ []) (places_from a base (k + 1) (count - (k + 1))))

-- and no more
pub place_end : (a : AssembledState) (base : ℕ) (out : List ℕ) (count k : ℕ) → count ≤ k → out ++ places_from a base k (count - k) ≡ out
unfolding places_from
place_end a base out count k le = let e : count - k ≡ 0 = omega arith in rw e (append-nil out)
