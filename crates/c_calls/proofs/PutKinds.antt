-- One value more at the front of a room.
use Rattle.std.proofs.Common.{◌≡◌, ◌∙◌, ℕ, zero, suc, ◌+◌, ◌<◌, ◌≤◌, List, [], ◌∷◌, ◌++◌, length, map, take, drop, set, get_or, refl, sym, subst, ap, add-one, arith}

puts : {A B : Type 0} (f : A → B) (xs : List A) (old : List B) (k : ℕ) (d : A) → k < length xs → length xs ≤ length old →
    set (map f (take k xs) ++ drop k old) k (f (get_or xs k d)) ≡ map f (take (suc k) xs) ++ drop (suc k) old
puts f [] old k d h l = absurd (omega arith)
puts f (x ∷ xs) [] k d h l = absurd (omega arith)
puts f (x ∷ xs) (o ∷ old) zero d h l = refl
puts f (x ∷ xs) (o ∷ old) (suc k) d h l = ap (λ ys. f x ∷ ys) (puts f xs old k d (omega arith) (omega arith))

-- **the next value of a list is put behind those before it**
pub puts_next : {A B : Type 0} (f : A → B) (xs : List A) (old : List B) (k : ℕ) (d : A) → k < length xs → length xs ≤ length old →
    set (map f (take k xs) ++ drop k old) k (f (get_or xs k d)) ≡ map f (take (k + 1) xs) ++ drop (k + 1) old
puts_next f xs old k d h l =
    subst (λ n. set (map f (take k xs) ++ drop k old) k (f (get_or xs k d)) ≡ map f (take n xs) ++ drop n old) (sym (add-one k)) (puts f xs old k d h l)

-- the same where room and value are given by equations
pub puts_at : {A B : Type 0} (f : A → B) (xs : List A) (old : List B) (k : ℕ) (d : A) (v : B) (out : List B) → v ≡ f (get_or xs k d) →
    out ≡ map f (take k xs) ++ drop k old → k < length xs → length xs ≤ length old → set out k v ≡ map f (take (k + 1) xs) ++ drop (k + 1) old
puts_at f xs old k d v out e o h l =
    ap (set out k) e ∙ (ap (λ ys. set ys k (f (get_or xs k d))) o ∙ puts_next f xs old k d h l)
