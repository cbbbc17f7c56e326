-- One moved instruction more at the front of a room.
use Rattle.std.proofs.Common.{◌≡◌, ◌∙◌, ℕ, zero, suc, ◌+◌, ◌<◌, List, [], ◌∷◌, ◌++◌, length, map, drop, set, sym, subst, ap, add-one, arith}
use Rattle.std.specs.List.{range_with_len}

counts : {A : Type 0} (f : ℕ → A) (a : ℕ) (old : List A) (k : ℕ) → k < length old →
    set (map f (range_with_len a k) ++ drop k old) k (f (a + k)) ≡ map f (range_with_len a (suc k)) ++ drop (suc k) old
counts f a [] k h = absurd (omega arith)
counts f a (o ∷ old) zero h = let here : a + zero ≡ a = omega arith in ap (λ n. f n ∷ old) here
counts f a (o ∷ old) (suc k) h =
    let next : a + suc k ≡ a + 1 + k = omega arith in
    let behind = counts f (a + 1) old k (omega arith) in
    ap (λ ys. f a ∷ ys) (ap (λ n. set (map f (range_with_len (a + 1) k) ++ drop k old) k (f n)) next ∙ behind)

-- **the value at the next number is put behind those before it**
pub counts_next : {A : Type 0} (f : ℕ → A) (old : List A) (k : ℕ) → k < length old →
    set (map f (range_with_len 0 k) ++ drop k old) k (f k) ≡ map f (range_with_len 0 (k + 1)) ++ drop (k + 1) old
counts_next f old k h =
    let here : k ≡ 0 + k = omega arith in
    let room = map f (range_with_len 0 k) ++ drop k old in
    ap (λ n. set room k (f n)) here
    ∙ subst (λ n. set room k (f (0 + k)) ≡ map f (range_with_len 0 n) ++ drop n old) (sym (add-one k))
    (counts f 0 old k h)

-- the same where room and value are given by equations
pub counts_at : {A : Type 0} (f : ℕ → A) (old : List A) (k : ℕ) (v : A) (room : List A) → v ≡ f k →
    room ≡ map f (range_with_len 0 k) ++ drop k old → k < length old →
    set room k v ≡ map f (range_with_len 0 (k + 1)) ++ drop (k + 1) old
counts_at f old k v room e o h =
    ap (set room k) e ∙ (ap (λ ys. set ys k (f k)) o ∙ counts_next f old k h)
